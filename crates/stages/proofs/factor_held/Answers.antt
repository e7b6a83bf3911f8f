-- `factor_held` meets its contract. Assumes nothing.
use Rattle.std.specs.Prelude.{Ok}
use mathlib.Core.Path.{sym}
use Prim.Native.Nat.{◌+◌}
use lib.Seq.{length-take-le}
use Rattle.sparse.specs.Matrix.{Compressed, compressed}
use Rattle.sparse.specs.Set.{Storage, storage_of}
use Rattle.factor_all.specs.Factored.{factored_of}
use Rattle.text_plan.specs.Call.{reading_of}
use Rattle.stages.proofs.Lending.{back, R-part, C-part, L-part, U-part, accepted, lent_back}
use Rattle.stages.proofs.factor_held.Goals as goal

pub slice_bounds-factor_accepted-end : goal.slice_bounds-factor_accepted-end
slice_bounds-factor_accepted-end c = sym (length-take-le _ _ c.requires.plan.rows)

pub slice_bounds-factor_accepted-end-2 : goal.slice_bounds-factor_accepted-end-2
slice_bounds-factor_accepted-end-2 c = sym (length-take-le _ _ c.requires.plan.columns-fit)

pub slice_bounds-factor_accepted-end-3 : goal.slice_bounds-factor_accepted-end-3
slice_bounds-factor_accepted-end-3 c = sym (length-take-le _ _ c.requires.plan.values-fit)

pub slice_bounds-factor_accepted-end-5 : goal.slice_bounds-factor_accepted-end-5
slice_bounds-factor_accepted-end-5 c =
    let plan : Compressed = compressed c.args.starts.now c.args.cols.now c.args.vals.now in
    let lent : Storage = storage_of c.args.ro.now c.args.co.now (compressed c.args.ls.now c.args.lc.now c.args.lv.now)
    (compressed c.args.us.now c.args.uc.now c.args.uv.now) c.args.work.now in
    sym (R-part (reading_of (Ok c.args.stated)) (plan) (lent) c.requires)

pub slice_bounds-factor_accepted-end-7 : goal.slice_bounds-factor_accepted-end-7
slice_bounds-factor_accepted-end-7 c =
    let plan : Compressed = compressed c.args.starts.now c.args.cols.now c.args.vals.now in
    let lent : Storage = storage_of c.args.ro.now c.args.co.now (compressed c.args.ls.now c.args.lc.now c.args.lv.now)
    (compressed c.args.us.now c.args.uc.now c.args.uv.now) c.args.work.now in
    sym (C-part (reading_of (Ok c.args.stated)) (plan) (lent) c.requires)

pub slice_bounds-factor_accepted-end-9 : goal.slice_bounds-factor_accepted-end-9
slice_bounds-factor_accepted-end-9 c =
    let plan : Compressed = compressed c.args.starts.now c.args.cols.now c.args.vals.now in
    let lent : Storage = storage_of c.args.ro.now c.args.co.now (compressed c.args.ls.now c.args.lc.now c.args.lv.now)
    (compressed c.args.us.now c.args.uc.now c.args.uv.now) c.args.work.now in
    sym (L-part (reading_of (Ok c.args.stated)) (plan) (lent) c.requires)

pub slice_bounds-factor_accepted-end-11 : goal.slice_bounds-factor_accepted-end-11
slice_bounds-factor_accepted-end-11 c =
    let plan : Compressed = compressed c.args.starts.now c.args.cols.now c.args.vals.now in
    let lent : Storage = storage_of c.args.ro.now c.args.co.now (compressed c.args.ls.now c.args.lc.now c.args.lv.now)
    (compressed c.args.us.now c.args.uc.now c.args.uv.now) c.args.work.now in
    sym (U-part (reading_of (Ok c.args.stated)) (plan) (lent) c.requires)

pub factor_accepted-requires : goal.factor_accepted-requires
factor_accepted-requires c =
    let plan : Compressed = compressed c.args.starts.now c.args.cols.now c.args.vals.now in
    let lent : Storage = storage_of c.args.ro.now c.args.co.now (compressed c.args.ls.now c.args.lc.now c.args.lv.now)
    (compressed c.args.us.now c.args.uc.now c.args.uv.now) c.args.work.now in
    accepted (reading_of (Ok c.args.stated)) (plan) (lent) c.requires

pub shape_of-ro : goal.shape_of-ro
shape_of-ro c = back c.args.stated.n c.args.ro.now c.factor_accepted.new.ro c.factor_accepted.auto.ro

pub shape_of-co : goal.shape_of-co
shape_of-co c = back c.args.stated.m c.args.co.now c.factor_accepted.new.co c.factor_accepted.auto.co

pub shape_of-ls : goal.shape_of-ls
shape_of-ls c = back (c.args.stated.n + 1) c.args.ls.now c.factor_accepted.new.ls c.factor_accepted.auto.ls

pub shape_of-us : goal.shape_of-us
shape_of-us c = back (c.args.stated.n + 1) c.args.us.now c.factor_accepted.new.us c.factor_accepted.auto.us

pub returns : goal.returns
returns c =
    let plan : Compressed = compressed c.args.starts.now c.args.cols.now c.args.vals.now in
    let lent : Storage = storage_of c.args.ro.now c.args.co.now (compressed c.args.ls.now c.args.lc.now c.args.lv.now)
    (compressed c.args.us.now c.args.uc.now c.args.uv.now) c.args.work.now in
    lent_back (reading_of (Ok c.args.stated)) (plan) (lent) c.requires (factored_of c.factor_accepted.result) (storage_of c.factor_accepted.new.ro c.factor_accepted.new.co (compressed c.factor_accepted.new.ls c.factor_accepted.new.lc c.factor_accepted.new.lv) (compressed c.factor_accepted.new.us c.factor_accepted.new.uc c.factor_accepted.new.uv) c.factor_accepted.new.work) c.factor_accepted.auto.ro c.factor_accepted.auto.co c.factor_accepted.auto.ls c.factor_accepted.auto.us c.factor_accepted.ensures

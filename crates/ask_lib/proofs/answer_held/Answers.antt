-- `answer_held` meets its contract. Assumes nothing.
use Rattle.std.specs.Prelude.{Ok}
use mathlib.Core.Path.{sym}
use lib.Seq.{length-take-le}
use Rattle.sparse.specs.Matrix.{Compressed, compressed}
use Rattle.sparse.specs.Set.{Storage, storage_of}
use Rattle.call_answer.specs.Calls.{given_answer}
use Rattle.stages.specs.Results.{stages_of}
use Rattle.stages.proofs.Lending.{back}
use Rattle.ask_lib.proofs.Answered.{x_fits, z-fits, x-part, z-part, answered}
use Rattle.ask_lib.proofs.answer_held.Goals as goal

pub slice_bounds-answer_from_factors-end : goal.slice_bounds-answer_from_factors-end
slice_bounds-answer_from_factors-end c = sym (length-take-le _ _ c.requires.fits.plan.rows)

pub slice_bounds-answer_from_factors-end-2 : goal.slice_bounds-answer_from_factors-end-2
slice_bounds-answer_from_factors-end-2 c = sym (length-take-le _ _ c.requires.fits.plan.columns-fit)

pub slice_bounds-answer_from_factors-end-3 : goal.slice_bounds-answer_from_factors-end-3
slice_bounds-answer_from_factors-end-3 c = sym (length-take-le _ _ c.requires.fits.plan.values-fit)

pub slice_bounds-answer_from_factors-end-4 : goal.slice_bounds-answer_from_factors-end-4
slice_bounds-answer_from_factors-end-4 c = sym (length-take-le _ _ c.requires.fits.R-fits)

pub slice_bounds-answer_from_factors-end-5 : goal.slice_bounds-answer_from_factors-end-5
slice_bounds-answer_from_factors-end-5 c = sym (length-take-le _ _ c.requires.fits.C-fits)

pub slice_bounds-answer_from_factors-end-6 : goal.slice_bounds-answer_from_factors-end-6
slice_bounds-answer_from_factors-end-6 c = sym (length-take-le _ _ c.requires.fits.L-starts)

pub slice_bounds-answer_from_factors-end-7 : goal.slice_bounds-answer_from_factors-end-7
slice_bounds-answer_from_factors-end-7 c = sym (length-take-le _ _ c.requires.fits.L-columns)

pub slice_bounds-answer_from_factors-end-8 : goal.slice_bounds-answer_from_factors-end-8
slice_bounds-answer_from_factors-end-8 c = sym (length-take-le _ _ c.requires.fits.L-values)

pub slice_bounds-answer_from_factors-end-9 : goal.slice_bounds-answer_from_factors-end-9
slice_bounds-answer_from_factors-end-9 c = sym (length-take-le _ _ c.requires.fits.U-starts)

pub slice_bounds-answer_from_factors-end-10 : goal.slice_bounds-answer_from_factors-end-10
slice_bounds-answer_from_factors-end-10 c = sym (length-take-le _ _ c.requires.fits.U-columns)

pub slice_bounds-answer_from_factors-end-11 : goal.slice_bounds-answer_from_factors-end-11
slice_bounds-answer_from_factors-end-11 c = sym (length-take-le _ _ c.requires.fits.U-values)

pub slice_bounds-answer_from_factors-end-12 : goal.slice_bounds-answer_from_factors-end-12
slice_bounds-answer_from_factors-end-12 c =
    let plan : Compressed = compressed c.args.starts.now c.args.cols.now c.args.vals.now in
    let lent : Storage = storage_of c.args.ro.now c.args.co.now (compressed c.args.ls.now c.args.lc.now c.args.lv.now)
    (compressed c.args.us.now c.args.uc.now c.args.uv.now) c.args.work.now in
    x_fits (stages_of (Ok c.args.plan)) (plan) (lent) c.args.y.now c.args.x.now c.args.z.now c.requires

pub slice_bounds-answer_from_factors-end-13 : goal.slice_bounds-answer_from_factors-end-13
slice_bounds-answer_from_factors-end-13 c =
    let plan : Compressed = compressed c.args.starts.now c.args.cols.now c.args.vals.now in
    let lent : Storage = storage_of c.args.ro.now c.args.co.now (compressed c.args.ls.now c.args.lc.now c.args.lv.now)
    (compressed c.args.us.now c.args.uc.now c.args.uv.now) c.args.work.now in
    sym (x-part (stages_of (Ok c.args.plan)) (plan) (lent) c.args.y.now c.args.x.now c.args.z.now c.requires)

pub slice_bounds-answer_from_factors-end-14 : goal.slice_bounds-answer_from_factors-end-14
slice_bounds-answer_from_factors-end-14 c =
    let plan : Compressed = compressed c.args.starts.now c.args.cols.now c.args.vals.now in
    let lent : Storage = storage_of c.args.ro.now c.args.co.now (compressed c.args.ls.now c.args.lc.now c.args.lv.now)
    (compressed c.args.us.now c.args.uc.now c.args.uv.now) c.args.work.now in
    z-fits (stages_of (Ok c.args.plan)) (plan) (lent) c.args.y.now c.args.x.now c.args.z.now c.requires

pub slice_bounds-answer_from_factors-end-15 : goal.slice_bounds-answer_from_factors-end-15
slice_bounds-answer_from_factors-end-15 c =
    let plan : Compressed = compressed c.args.starts.now c.args.cols.now c.args.vals.now in
    let lent : Storage = storage_of c.args.ro.now c.args.co.now (compressed c.args.ls.now c.args.lc.now c.args.lv.now)
    (compressed c.args.us.now c.args.uc.now c.args.uv.now) c.args.work.now in
    sym (z-part (stages_of (Ok c.args.plan)) (plan) (lent) c.args.y.now c.args.x.now c.args.z.now c.requires)

pub shape_of-x : goal.shape_of-x
shape_of-x c = back c.args.plan.stated.n c.args.x.now c.answer_from_factors.new.x c.answer_from_factors.auto.x

pub shape_of-z : goal.shape_of-z
shape_of-z c = back c.args.plan.stated.m c.args.z.now c.answer_from_factors.new.z c.answer_from_factors.auto.z

pub returns : goal.returns
returns c =
    let plan : Compressed = compressed c.args.starts.now c.args.cols.now c.args.vals.now in
    let lent : Storage = storage_of c.args.ro.now c.args.co.now (compressed c.args.ls.now c.args.lc.now c.args.lv.now)
    (compressed c.args.us.now c.args.uc.now c.args.uv.now) c.args.work.now in
    answered (stages_of (Ok c.args.plan)) (plan) (lent) c.args.y.now c.args.x.now c.args.z.now c.requires (given_answer c.answer_from_factors.result) c.answer_from_factors.new.x c.answer_from_factors.new.z c.answer_from_factors.new.work c.answer_from_factors.auto.x c.answer_from_factors.auto.z c.answer_from_factors.ensures

-- `solve_held` meets its contract. Assumes nothing.
use Rattle.std.specs.Prelude.{Ok}
use mathlib.Core.Path.{sym}
use lib.Seq.{length-take-le}
use Rattle.sparse.specs.Matrix.{Compressed, compressed}
use Rattle.sparse.specs.Set.{Storage, storage_of}
use Rattle.stages.proofs.Lending.{back}
use Rattle.call_slots.specs.Calls.{given_solution}
use Rattle.stages.specs.Results.{stages_of}
use Rattle.ask_lib.proofs.Answered.{x_fits, z-fits, x-part, z-part}
use Rattle.ask_words.proofs.Solved.{owners-fit, solved}
use Rattle.ask_words.proofs.solve_held.Goals as goal

pub slice_bounds-solve_slots_from_factors-end : goal.slice_bounds-solve_slots_from_factors-end
slice_bounds-solve_slots_from_factors-end c = sym (length-take-le _ _ c.requires.lists.fits.plan.rows)

pub slice_bounds-solve_slots_from_factors-end-2 : goal.slice_bounds-solve_slots_from_factors-end-2
slice_bounds-solve_slots_from_factors-end-2 c = sym (length-take-le _ _ c.requires.lists.fits.plan.columns-fit)

pub slice_bounds-solve_slots_from_factors-end-3 : goal.slice_bounds-solve_slots_from_factors-end-3
slice_bounds-solve_slots_from_factors-end-3 c = sym (length-take-le _ _ c.requires.lists.fits.plan.values-fit)

pub slice_bounds-solve_slots_from_factors-end-4 : goal.slice_bounds-solve_slots_from_factors-end-4
slice_bounds-solve_slots_from_factors-end-4 c =
    let plan : Compressed = compressed c.args.starts.now c.args.cols.now c.args.vals.now in
    let lent : Storage = storage_of c.args.ro.now c.args.co.now (compressed c.args.ls.now c.args.lc.now c.args.lv.now)
    (compressed c.args.us.now c.args.uc.now c.args.uv.now) c.args.work.now in
    sym (length-take-le _ _ (owners-fit (stages_of (Ok c.args.plan)) (plan) c.args.owners.now (lent) c.args.h.now c.args.setting.now c.args.combination.now c.requires))

pub slice_bounds-solve_slots_from_factors-end-5 : goal.slice_bounds-solve_slots_from_factors-end-5
slice_bounds-solve_slots_from_factors-end-5 c = sym (length-take-le _ _ c.requires.lists.fits.R-fits)

pub slice_bounds-solve_slots_from_factors-end-6 : goal.slice_bounds-solve_slots_from_factors-end-6
slice_bounds-solve_slots_from_factors-end-6 c = sym (length-take-le _ _ c.requires.lists.fits.C-fits)

pub slice_bounds-solve_slots_from_factors-end-7 : goal.slice_bounds-solve_slots_from_factors-end-7
slice_bounds-solve_slots_from_factors-end-7 c = sym (length-take-le _ _ c.requires.lists.fits.L-starts)

pub slice_bounds-solve_slots_from_factors-end-8 : goal.slice_bounds-solve_slots_from_factors-end-8
slice_bounds-solve_slots_from_factors-end-8 c = sym (length-take-le _ _ c.requires.lists.fits.L-columns)

pub slice_bounds-solve_slots_from_factors-end-9 : goal.slice_bounds-solve_slots_from_factors-end-9
slice_bounds-solve_slots_from_factors-end-9 c = sym (length-take-le _ _ c.requires.lists.fits.L-values)

pub slice_bounds-solve_slots_from_factors-end-10 : goal.slice_bounds-solve_slots_from_factors-end-10
slice_bounds-solve_slots_from_factors-end-10 c = sym (length-take-le _ _ c.requires.lists.fits.U-starts)

pub slice_bounds-solve_slots_from_factors-end-11 : goal.slice_bounds-solve_slots_from_factors-end-11
slice_bounds-solve_slots_from_factors-end-11 c = sym (length-take-le _ _ c.requires.lists.fits.U-columns)

pub slice_bounds-solve_slots_from_factors-end-12 : goal.slice_bounds-solve_slots_from_factors-end-12
slice_bounds-solve_slots_from_factors-end-12 c = sym (length-take-le _ _ c.requires.lists.fits.U-values)

pub slice_bounds-solve_slots_from_factors-end-13 : goal.slice_bounds-solve_slots_from_factors-end-13
slice_bounds-solve_slots_from_factors-end-13 c =
    let plan : Compressed = compressed c.args.starts.now c.args.cols.now c.args.vals.now in
    let lent : Storage = storage_of c.args.ro.now c.args.co.now (compressed c.args.ls.now c.args.lc.now c.args.lv.now)
    (compressed c.args.us.now c.args.uc.now c.args.uv.now) c.args.work.now in
    z-fits (stages_of (Ok c.args.plan)) (plan) (lent) c.args.h.now c.args.combination.now c.args.setting.now c.requires.lists

pub slice_bounds-solve_slots_from_factors-end-14 : goal.slice_bounds-solve_slots_from_factors-end-14
slice_bounds-solve_slots_from_factors-end-14 c =
    let plan : Compressed = compressed c.args.starts.now c.args.cols.now c.args.vals.now in
    let lent : Storage = storage_of c.args.ro.now c.args.co.now (compressed c.args.ls.now c.args.lc.now c.args.lv.now)
    (compressed c.args.us.now c.args.uc.now c.args.uv.now) c.args.work.now in
    sym (z-part (stages_of (Ok c.args.plan)) (plan) (lent) c.args.h.now c.args.combination.now c.args.setting.now c.requires.lists)

pub slice_bounds-solve_slots_from_factors-end-15 : goal.slice_bounds-solve_slots_from_factors-end-15
slice_bounds-solve_slots_from_factors-end-15 c =
    let plan : Compressed = compressed c.args.starts.now c.args.cols.now c.args.vals.now in
    let lent : Storage = storage_of c.args.ro.now c.args.co.now (compressed c.args.ls.now c.args.lc.now c.args.lv.now)
    (compressed c.args.us.now c.args.uc.now c.args.uv.now) c.args.work.now in
    x_fits (stages_of (Ok c.args.plan)) (plan) (lent) c.args.h.now c.args.combination.now c.args.setting.now c.requires.lists

pub slice_bounds-solve_slots_from_factors-end-16 : goal.slice_bounds-solve_slots_from_factors-end-16
slice_bounds-solve_slots_from_factors-end-16 c =
    let plan : Compressed = compressed c.args.starts.now c.args.cols.now c.args.vals.now in
    let lent : Storage = storage_of c.args.ro.now c.args.co.now (compressed c.args.ls.now c.args.lc.now c.args.lv.now)
    (compressed c.args.us.now c.args.uc.now c.args.uv.now) c.args.work.now in
    sym (x-part (stages_of (Ok c.args.plan)) (plan) (lent) c.args.h.now c.args.combination.now c.args.setting.now c.requires.lists)

pub shape_of-setting : goal.shape_of-setting
shape_of-setting c = back c.args.plan.stated.m c.args.setting.now c.solve_slots_from_factors.new.s c.solve_slots_from_factors.auto.s

pub shape_of-combination : goal.shape_of-combination
shape_of-combination c = back c.args.plan.stated.n c.args.combination.now c.solve_slots_from_factors.new.w c.solve_slots_from_factors.auto.w

pub returns : goal.returns
returns c =
    let plan : Compressed = compressed c.args.starts.now c.args.cols.now c.args.vals.now in
    let lent : Storage = storage_of c.args.ro.now c.args.co.now (compressed c.args.ls.now c.args.lc.now c.args.lv.now)
    (compressed c.args.us.now c.args.uc.now c.args.uv.now) c.args.work.now in
    solved (stages_of (Ok c.args.plan)) (plan) c.args.owners.now (lent) c.args.h.now c.args.setting.now c.args.combination.now c.requires (given_solution c.solve_slots_from_factors.result) c.solve_slots_from_factors.new.s c.solve_slots_from_factors.new.w c.solve_slots_from_factors.new.work c.solve_slots_from_factors.auto.s c.solve_slots_from_factors.auto.w c.solve_slots_from_factors.ensures

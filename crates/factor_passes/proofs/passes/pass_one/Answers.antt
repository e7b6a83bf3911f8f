-- `pass_one` meets its contract: the completed order of the rows is the schedule. Assumes nothing.
use mathlib.Core.Path.{◌∙◌}
use Rattle.factor_passes.proofs.PassOne.{rows-part, one-rows, R-kept, columns-fit, columns-part, one-columns, C-kept, last_fit, last-part, last-long, one-pass, one-passed}
use Rattle.factor_passes.proofs.passes.pass_one.Goals as goal

pub slice_bounds-complete-end : goal.slice_bounds-complete-end
slice_bounds-complete-end c = c.requires.lists.n-fits

pub slice_bounds-complete-end-2 : goal.slice_bounds-complete-end-2
slice_bounds-complete-end-2 c = rows-part _ _ _ _ c.requires

pub complete-requires : goal.complete-requires
complete-requires c = one-rows _ _ _ _ c.requires

pub slice_bounds-complete_columns-end : goal.slice_bounds-complete_columns-end
slice_bounds-complete_columns-end c = columns-fit _ _ _ _ c.requires _ _ c.complete.ensures

pub slice_bounds-complete_columns-end-2 : goal.slice_bounds-complete_columns-end-2
slice_bounds-complete_columns-end-2 c = columns-part _ _ _ _ c.requires _ _ c.complete.ensures

pub complete_columns-requires : goal.complete_columns-requires
complete_columns-requires c = (c.requires.rows_inside, one-columns _ _ _ _ c.requires _ _ c.complete.ensures)

pub slice_bounds-find_pivots-end : goal.slice_bounds-find_pivots-end
slice_bounds-find_pivots-end c = last_fit _ _ _ _ c.requires _ _ c.complete.ensures _ _ c.complete_columns.ensures

pub slice_bounds-find_pivots-end-2 : goal.slice_bounds-find_pivots-end-2
slice_bounds-find_pivots-end-2 c = last-part _ _ _ _ c.requires _ _ c.complete.ensures _ _ c.complete_columns.ensures

pub find_pivots-requires : goal.find_pivots-requires
find_pivots-requires c = one-pass _ _ _ _ c.requires _ _ c.complete.ensures _ _ c.complete_columns.ensures

pub shape_of-ro : goal.shape_of-ro
shape_of-ro c = c.find_pivots.auto.ro ∙ R-kept _ _ _ _ c.requires _ _ c.complete.ensures

pub shape_of-co : goal.shape_of-co
shape_of-co c = c.find_pivots.auto.co ∙ C-kept _ _ _ _ c.requires _ _ c.complete.ensures _ _ c.complete_columns.ensures

pub shape_of-ls : goal.shape_of-ls
shape_of-ls c = c.find_pivots.auto.ls

pub shape_of-lc : goal.shape_of-lc
shape_of-lc c = c.find_pivots.auto.lc

pub shape_of-lv : goal.shape_of-lv
shape_of-lv c = c.find_pivots.auto.lv

pub shape_of-us : goal.shape_of-us
shape_of-us c = c.find_pivots.auto.us

pub shape_of-uc : goal.shape_of-uc
shape_of-uc c = c.find_pivots.auto.uc

pub shape_of-uv : goal.shape_of-uv
shape_of-uv c = c.find_pivots.auto.uv

pub shape_of-work : goal.shape_of-work
shape_of-work c = last-long _ _ _ _ c.requires _ _ c.complete.ensures _ _ c.complete_columns.ensures c.find_pivots.new.work c.find_pivots.auto.work

pub returns : goal.returns
returns c = one-passed _ _ _ _ c.requires _ _ c.complete.ensures _ _ c.complete_columns.ensures _ _ c.find_pivots.ensures

-- `list_held` meets its contract. Assumes nothing.
use mathlib.Core.Path.{sym}
use lib.Seq.{length-take-le}
use Rattle.report_lib.proofs.list_held.Goals as goal

pub slice_bounds-open_columns_from_factors-end : goal.slice_bounds-open_columns_from_factors-end
slice_bounds-open_columns_from_factors-end c = sym (length-take-le _ _ c.requires.plan.rows)

pub slice_bounds-open_columns_from_factors-end-2 : goal.slice_bounds-open_columns_from_factors-end-2
slice_bounds-open_columns_from_factors-end-2 c = sym (length-take-le _ _ c.requires.plan.columns-fit)

pub slice_bounds-open_columns_from_factors-end-3 : goal.slice_bounds-open_columns_from_factors-end-3
slice_bounds-open_columns_from_factors-end-3 c = sym (length-take-le _ _ c.requires.plan.values-fit)

pub slice_bounds-open_columns_from_factors-end-4 : goal.slice_bounds-open_columns_from_factors-end-4
slice_bounds-open_columns_from_factors-end-4 c = sym (length-take-le _ _ c.requires.R-fits)

pub slice_bounds-open_columns_from_factors-end-5 : goal.slice_bounds-open_columns_from_factors-end-5
slice_bounds-open_columns_from_factors-end-5 c = sym (length-take-le _ _ c.requires.C-fits)

pub slice_bounds-open_columns_from_factors-end-6 : goal.slice_bounds-open_columns_from_factors-end-6
slice_bounds-open_columns_from_factors-end-6 c = sym (length-take-le _ _ c.requires.L-starts)

pub slice_bounds-open_columns_from_factors-end-7 : goal.slice_bounds-open_columns_from_factors-end-7
slice_bounds-open_columns_from_factors-end-7 c = sym (length-take-le _ _ c.requires.L-columns)

pub slice_bounds-open_columns_from_factors-end-8 : goal.slice_bounds-open_columns_from_factors-end-8
slice_bounds-open_columns_from_factors-end-8 c = sym (length-take-le _ _ c.requires.L-values)

pub slice_bounds-open_columns_from_factors-end-9 : goal.slice_bounds-open_columns_from_factors-end-9
slice_bounds-open_columns_from_factors-end-9 c = sym (length-take-le _ _ c.requires.U-starts)

pub slice_bounds-open_columns_from_factors-end-10 : goal.slice_bounds-open_columns_from_factors-end-10
slice_bounds-open_columns_from_factors-end-10 c = sym (length-take-le _ _ c.requires.U-columns)

pub slice_bounds-open_columns_from_factors-end-11 : goal.slice_bounds-open_columns_from_factors-end-11
slice_bounds-open_columns_from_factors-end-11 c = sym (length-take-le _ _ c.requires.U-values)

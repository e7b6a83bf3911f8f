-- `mark_row` meets its contract; the loop's invariant is `Marking`, for the cells and for the pivots. Assumes nothing.
use lib.ListN.{get_or}
use Rattle.factor_touch.specs.Touched.{free_block, pivot_block}
use Rattle.factor_touch.proofs.Marking.{Marking}
use Rattle.factor_touch.proofs.marks.mark_row.Given as goal

abbrev pub invariant-loop-column : goal.invariant-loop-column
invariant-loop-column l = Marking (λ s. free_block l.place (get_or l.cols s 0)) l.initial.touched l.touched l.column-index × Marking (λ s. pivot_block l.place (get_or l.cols s 0)) l.initial.pending l.pending l.column-index

-- `next_in_pivots` meets its contract; at the columns of the pivots passed the row is 0. Assumes nothing.
use Rattle.factor_touch.specs.Searching.{ZeroSpan}
use Rattle.factor_marked.specs.Pivots.{pivot_cell}
use Rattle.factor_marked.proofs.next_pivot.next_in_pivots.Given as goal

abbrev pub invariant-loop-k : goal.invariant-loop-k
invariant-loop-k l = ZeroSpan (pivot_cell l.co l.work) (l.end) l.from l.k

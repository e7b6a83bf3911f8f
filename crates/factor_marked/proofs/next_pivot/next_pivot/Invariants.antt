-- `next_pivot` meets its contract; at the columns of the pivots passed the row is 0. Assumes nothing.
use Prim.Native.Nat.{◌-◌}
use lib.ListN.{length}
use Rattle.factor_touch.specs.Searching.{ZeroSpan}
use Rattle.factor_marked.specs.Pivots.{pivot_cell}
use Rattle.factor_marked.proofs.next_pivot.next_pivot.Given as goal

abbrev pub invariant-loop-k : goal.invariant-loop-k
invariant-loop-k l = ZeroSpan (pivot_cell l.co l.work) (length l.co) l.from l.k

abbrev pub decreases-loop-k : goal.decreases-loop-k
decreases-loop-k l = length l.co - l.k

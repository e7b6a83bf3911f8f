-- `next_touched` meets its contract; the cells passed are 0. Assumes nothing.
use Prim.Native.Nat.{◌-◌}
use lib.ListN.{length}
use Rattle.algebra.specs.Matrix.{vector}
use Rattle.factor_touch.specs.Searching.{ZeroSpan}
use Rattle.factor_touch.proofs.searching.next_touched.Given as goal

abbrev pub invariant-loop-j : goal.invariant-loop-j
invariant-loop-j l = ZeroSpan (vector l.row) (length l.row) l.from l.j

abbrev pub decreases-loop-j : goal.decreases-loop-j
decreases-loop-j l = length l.row - l.j

-- `next_mark` meets its contract; no block passed is marked. Assumes nothing.
use lib.ListN.{length}
use Rattle.algebra.specs.Matrix.{vector}
use Rattle.factor_touch.specs.Searching.{ZeroSpan}
use Rattle.factor_touch.proofs.searching.next_mark.Given as goal

abbrev pub invariant-loop-b : goal.invariant-loop-b
invariant-loop-b l = ZeroSpan (vector l.marks) (length l.marks) l.from l.b

-- `skip_eights` meets its contract; no block passed is marked. Assumes nothing.
use Prim.Native.Nat.{◌+◌, ◌*◌}
use lib.ListN.{length}
use Rattle.algebra.specs.Matrix.{vector}
use Rattle.factor_touch.specs.Searching.{ZeroSpan}
use Rattle.factor_touch.proofs.searching.skip_eights.Given as goal

abbrev pub invariant-loop-k : goal.invariant-loop-k
invariant-loop-k l = ZeroSpan (vector l.marks) (length l.marks) l.from (l.from + 8 * l.k)

-- `store_left` meets its contract; the loop's invariant is `LeftSoFar`. Assumes nothing.
use lib.ListN.{length}
use Rattle.factor_dense.proofs.LeftSteps.{LeftSoFar}
use Rattle.factor_dense.proofs.storing.store_left.Given as goal

abbrev pub invariant-loop-column : goal.invariant-loop-column
invariant-loop-column l = LeftSoFar l.width l.l l.limit l.fn.js l.fn.row l.initial.uc l.initial.uv l.uc l.uv l.next (length l.yielded)

-- `mark` meets its contract; the loop's invariant is `Marking`: the numbers passed are marked. Assumes nothing.
use lib.ListN.{length}
use Rattle.factor_order.proofs.Completing.{Marking}
use Rattle.factor_order.proofs.complete.mark.Given as goal

abbrev pub invariant-loop-x : goal.invariant-loop-x
invariant-loop-x l = Marking l.x-items (length l.fn.list) l.marks l.x-index

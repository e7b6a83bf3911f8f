use Rattle.check_product.proofs.Rows.{Clearing}
use Rattle.check_product.proofs.sweep.zero_and_clear.Given as goal

abbrev pub invariant-loop-x : goal.invariant-loop-x
invariant-loop-x l = Clearing l.q.p l.initial.work l.work l.zero l.x-index

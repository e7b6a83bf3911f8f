use Rattle.check_product.proofs.MultipleLaws.{Matching}
use Rattle.check_product.proofs.copied.is_multiple.Given as goal

abbrev pub invariant-loop-t : goal.invariant-loop-t
invariant-loop-t l = Matching l.q.p l.c l.row.cols l.row.vals l.of.cols l.of.vals l.t

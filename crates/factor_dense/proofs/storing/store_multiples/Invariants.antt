-- `store_multiples` meets its contract; the loop's invariant is `StoringSoFar`. Assumes nothing.
use Rattle.factor_dense.proofs.StoringSteps.{StoringSoFar}
use Rattle.factor_dense.proofs.storing.store_multiples.Given as goal

abbrev pub invariant-loop-t : goal.invariant-loop-t
invariant-loop-t l = StoringSoFar l.s l.b l.l l.limit l.fn.xs l.initial.lc l.initial.lv l.lc l.lv l.next l.t

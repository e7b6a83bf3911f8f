-- `copy_scaled` meets its contract; the loop's invariant is `Copying`. Assumes nothing.
use Rattle.sparse.proofs.CopySteps.{Copying}
use Rattle.sparse.proofs.copying.copy_scaled.Given as goal

abbrev pub invariant-loop-t : goal.invariant-loop-t
invariant-loop-t l = Copying l.q.p l.c l.at l.rc l.rv l.initial.cols l.initial.vals l.cols l.vals l.t

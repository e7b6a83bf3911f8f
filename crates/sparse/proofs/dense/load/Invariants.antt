-- `load` meets its contract; the loop's invariant is `Loading`.
use Rattle.sparse.proofs.DenseSteps.{Loading}
use Rattle.sparse.proofs.dense.load.Given as goal

abbrev pub invariant-loop-t : goal.invariant-loop-t
invariant-loop-t l = Loading l.row.cols l.row.vals l.initial.work l.work l.t

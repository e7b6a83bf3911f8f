-- `dot` meets its contract; the loop's invariant is `Summing`.
use Rattle.algebra.specs.Matrix.{vector}
use Rattle.sparse.proofs.DenseSteps.{Summing}
use Rattle.sparse.proofs.dense.dot.Given as goal

abbrev pub invariant-loop-t : goal.invariant-loop-t
invariant-loop-t l = Summing l.q.p l.row.cols l.row.vals (vector l.z) l.s l.t

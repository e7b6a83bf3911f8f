use Rattle.algebra.specs.Matrix.{vector}
use Rattle.sparse.specs.Matrix.{matrix}
use Rattle.check_shape.proofs.RowTests.{Unit}
use Rattle.check_shape.proofs.upper.upper_rows.Given as goal

abbrev pub invariant-loop-k : goal.invariant-loop-k
invariant-loop-k l = Unit l.r (vector l.co) (matrix l.u) l.initial.work l.work l.k

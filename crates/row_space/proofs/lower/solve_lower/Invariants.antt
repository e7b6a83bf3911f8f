-- `solve_lower` meets its contract; the loop's invariant is `Lowering`: the rows from k on have their values in x. Assumes nothing.
use Rattle.algebra.specs.Matrix.{vector}
use Rattle.sparse.specs.Matrix.{matrix}
use Rattle.row_space.proofs.LowerLoop.{Lowering}
use Rattle.row_space.proofs.lower.solve_lower.Given as goal

abbrev pub invariant-loop-k : goal.invariant-loop-k
invariant-loop-k l = Lowering l.q.p (matrix l.l) (vector l.ro) l.initial.work l.work l.initial.x l.x l.k

-- `solve_upper` meets its contract; the loop's invariant is `Filling`: the pivot cells of the rows from k on are filled. Assumes nothing.
use Rattle.algebra.specs.Matrix.{vector}
use Rattle.sparse.specs.Matrix.{matrix}
use Rattle.row_space.proofs.UpperLoop.{Filling}
use Rattle.row_space.proofs.upper.solve_upper.Given as goal

abbrev pub invariant-loop-k : goal.invariant-loop-k
invariant-loop-k l = Filling l.q.p (vector l.co) (matrix l.u) l.r l.initial.z l.z l.k

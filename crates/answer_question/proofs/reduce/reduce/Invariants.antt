-- `reduce` meets its contract; the loop's invariant is `Collecting`: the working row is reduced by the first k rows. Assumes nothing.
use Rattle.algebra.specs.Matrix.{vector}
use Rattle.sparse.specs.Matrix.{matrix}
use Rattle.answer_question.proofs.ReduceLoop.{Collecting}
use Rattle.answer_question.proofs.reduce.reduce.Given as goal

abbrev pub invariant-loop-k : goal.invariant-loop-k
invariant-loop-k l = Collecting l.q.p (vector l.co) (matrix l.u) l.initial.multiples l.multiples l.initial.work l.work l.k

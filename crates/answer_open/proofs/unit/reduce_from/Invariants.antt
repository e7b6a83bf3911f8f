-- `reduce_from` meets its contract; the loop's invariant is `Passing`: rows k to i - 1 are taken away. Assumes nothing.
use Rattle.algebra.specs.Matrix.{vector}
use Rattle.sparse.specs.Matrix.{matrix}
use Rattle.answer_open.proofs.UnitLaws.{Passing}
use Rattle.answer_open.proofs.unit.reduce_from.Given as goal

abbrev pub invariant-loop-i : goal.invariant-loop-i
invariant-loop-i l = Passing l.q.p l.r (vector l.co) (matrix l.u) l.k l.initial.work l.work l.i

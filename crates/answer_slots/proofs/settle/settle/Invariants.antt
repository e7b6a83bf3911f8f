-- `settle` meets its contract; the loop's invariant is `Settling`: the pivot cells of the rows from k on are filled. Assumes nothing.
use Rattle.algebra.specs.Matrix.{vector}
use Rattle.sparse.specs.Matrix.{matrix}
use Rattle.answer_slots.proofs.SettleLoop.{Settling}
use Rattle.answer_slots.proofs.settle.settle.Given as goal

abbrev pub invariant-loop-k : goal.invariant-loop-k
invariant-loop-k l = Settling l.q.p (vector l.co) (matrix l.u) l.t l.initial.s l.s l.k

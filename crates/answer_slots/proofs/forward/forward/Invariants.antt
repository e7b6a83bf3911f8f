-- `forward` meets its contract; the loop's invariant is `Forwarding`: the first k values are found. Assumes nothing.
use Rattle.algebra.specs.Matrix.{vector}
use Rattle.sparse.specs.Matrix.{matrix}
use Rattle.column_space.specs.Slots.{in_order}
use Rattle.answer_slots.proofs.ForwardLoop.{Forwarding}
use Rattle.answer_slots.proofs.forward.forward.Given as goal

abbrev pub invariant-loop-k : goal.invariant-loop-k
invariant-loop-k l = Forwarding l.q.p (matrix l.l) (in_order (vector l.ro) (vector l.h)) l.initial.t l.t l.k

-- `subtract_numbers` meets its contract; the loop's invariant is `Lowering`.
use Rattle.sparse.proofs.Subtraction.{Lowering}
use Rattle.sparse.proofs.kernel.subtract_numbers.Given as goal

abbrev pub invariant-loop-t : goal.invariant-loop-t
invariant-loop-t g l = Lowering l.q.p l.c (g.N.Numbers.numbers l.cols) (g.N.Numbers.numbers l.vals) l.initial.work l.work l.t

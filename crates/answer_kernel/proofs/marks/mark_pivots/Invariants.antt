-- `mark_pivots` meets its contract; the loop's invariant is `Marking`: the first k columns of the order are marked. Assumes nothing.
use Rattle.answer_kernel.proofs.MarkLoop.{Marking}
use Rattle.answer_kernel.proofs.marks.mark_pivots.Given as goal

abbrev pub invariant-loop-k : goal.invariant-loop-k
invariant-loop-k l = Marking l.r l.co l.initial.work l.work l.k

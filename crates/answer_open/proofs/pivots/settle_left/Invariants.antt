-- `settle_left` meets its contract; the loop's invariant is `SettledOn`: the pivot columns of the rows from k on have their verdicts. Assumes nothing.
use lib.ListN.{length}
use Rattle.answer_open.specs.Opening.{SettledOn}
use Rattle.answer_open.proofs.pivots.settle_left.Given as goal

abbrev pub invariant-loop-k : goal.invariant-loop-k
invariant-loop-k l = SettledOn l.q.p l.r l.u l.co (length l.initial.marks) l.left l.marks l.work l.k

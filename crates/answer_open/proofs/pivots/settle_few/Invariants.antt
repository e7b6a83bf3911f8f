-- `settle_few` meets its contract; the loop's invariant is `SettledOn`. Assumes nothing.
use lib.ListN.{length}
use Rattle.answer_open.specs.Opening.{SettledOn}
use Rattle.answer_open.proofs.pivots.settle_few.Given as goal

abbrev pub invariant-loop : goal.invariant-loop
invariant-loop l = SettledOn l.q.p l.r l.u l.co (length l.initial.marks) l.from l.marks l.work l.left

-- `settle_by_counts` meets its contract; the loop's invariant is `SettledTo`: the pivot columns of the rows from k on have their verdicts. Assumes nothing.
use lib.ListN.{length}
use Rattle.answer_open.specs.Opening.{SettledTo}
use Rattle.answer_open.proofs.pivots.settle_by_counts.Given as goal

abbrev pub invariant-loop-k : goal.invariant-loop-k
invariant-loop-k l = SettledTo l.p l.r l.u l.co (length l.initial.marks) l.from l.marks l.k

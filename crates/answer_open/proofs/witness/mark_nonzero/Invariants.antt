-- `mark_nonzero` meets its contract; the loop's invariant is `Marking`: only cells of pivot columns whose value is not 0 have changed. Assumes nothing.
use Rattle.answer_open.proofs.WitnessLaws.{Marking}
use Rattle.answer_open.proofs.witness.mark_nonzero.Given as goal

abbrev pub invariant-loop-i : goal.invariant-loop-i
invariant-loop-i l = Marking l.left l.co l.values l.initial.marks l.marks l.found l.i

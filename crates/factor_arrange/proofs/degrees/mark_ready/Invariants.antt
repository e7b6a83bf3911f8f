-- `mark_ready` meets its contract; the loop's invariant is `Marked`: of the first i rows those that are ready are marked. Assumes nothing.
use Rattle.factor_arrange.proofs.Cells.{Marked}
use Rattle.factor_arrange.proofs.degrees.mark_ready.Given as goal

abbrev pub invariant-loop-i : goal.invariant-loop-i
invariant-loop-i l = Marked l.chosen l.degrees l.ready l.i

-- `mark_ready` meets its contract; the loop's invariant is `Marked`: of the first i rows those that are ready are marked. Assumes nothing.
use Rattle.factor_arrange.proofs.Cells.{marked-starts}
use Rattle.factor_arrange.proofs.degrees.mark_ready.Goals as goal

pub loop-i-init : goal.loop-i-init
loop-i-init c = marked-starts _ _ _ c.requires

-- `visit` meets its contract; the loop's invariant: the columns passed were visited. Assumes nothing.
use Rattle.factor_select.proofs.Trails.{visited-turn}
use Rattle.factor_select.proofs.search.visit.Goals as goal

pub loop-j-preserved : goal.loop-j-preserved
loop-j-preserved c = visited-turn _ c.loop-j.j-index c.loop-j.invariant c.loop-j-test.true c.touch-tail.ensures

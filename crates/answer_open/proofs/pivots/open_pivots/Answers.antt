-- `open_pivots` meets its contract: each step leaves what the next one needs. Assumes nothing.
use Rattle.answer_open.proofs.PivotSteps.{pivots-counting, pivots-left}
use Rattle.answer_open.proofs.pivots.open_pivots.Goals as goal

pub settle_by_counts-counted-requires : goal.settle_by_counts-counted-requires
settle_by_counts-counted-requires c = pivots-counting _ _ _ _ _ _ c.requires _ c.clear.ensures

pub settle_left-requires : goal.settle_left-requires
settle_left-requires c = pivots-left _ _ _ _ _ _ c.requires _ c.clear.ensures _ _ c.settle_by_counts-counted.ensures _ _ _ c.settle_few-left.ensures _ c.mark_closed.ensures

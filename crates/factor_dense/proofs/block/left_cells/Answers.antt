-- `left_cells` meets its contract, cell after cell. Assumes nothing.
use Rattle.factor_dense.proofs.LeftCellSteps.{copying-starts}
use Rattle.factor_dense.proofs.block.left_cells.Goals as goal

pub loop-l-init : goal.loop-l-init
loop-l-init c = copying-starts _ _ _

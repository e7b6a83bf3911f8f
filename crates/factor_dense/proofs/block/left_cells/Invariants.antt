-- `left_cells` meets its contract, cell after cell. Assumes nothing.
use Rattle.factor_dense.proofs.LeftCellSteps.{Copying}
use Rattle.factor_dense.proofs.block.left_cells.Given as goal

abbrev pub invariant-loop-l : goal.invariant-loop-l
invariant-loop-l l = Copying l.width l.js l.work l.out l.l

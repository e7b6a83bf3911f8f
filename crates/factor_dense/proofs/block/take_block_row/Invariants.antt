-- `take_block_row` meets its contract, cell after cell. Assumes nothing.
use Prim.Native.Nat.{◌*◌}
use Rattle.factor_dense.specs.Block.{cells_of}
use Rattle.factor_dense.proofs.TakingRows.{Taking}
use Rattle.factor_dense.proofs.block.take_block_row.Given as goal

abbrev pub invariant-loop-l : goal.invariant-loop-l
invariant-loop-l l = Taking l.q.p (λ j. l.c * cells_of l.block l.t j) l.initial.out l.out l.l

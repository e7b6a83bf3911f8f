-- `take_dense_row` meets its contract: the row can be taken and entered or its row of L kept, what is left then is a turn, and the block holds what it finds, by laws of `BlockReady` and `BlockTurn`. Assumes nothing.
use Rattle.factor_first.proofs.BlockReady.{dense-ready}
use Rattle.factor_first.proofs.BlockTurn.{dense-settle, dense-turned}
use Rattle.factor_first.proofs.dense.take_dense_row.Goals as goal

pub take_dense-d-requires : goal.take_dense-d-requires
take_dense-d-requires c = dense-ready _ _ _ _ _ _ _ _ _ _ _ _ _ _ _ c.requires

pub settle-to-requires : goal.settle-to-requires
settle-to-requires c = dense-settle _ _ _ _ _ _ _ _ _ _ _ _ _ _ _ c.requires _ _ _ _ _ _ c.take_dense-d.ensures _ c.take_dense-d.auto.work

pub returns : goal.returns
returns c = dense-turned _ _ _ _ _ _ _ _ _ _ _ _ _ _ _ c.requires _ _ _ _ _ _ c.take_dense-d.ensures _ c.take_dense-d.auto.work _ _ _ _ _ c.settle-to.ensures

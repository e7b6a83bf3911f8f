-- `reduce_in_block` meets its contract, row after row. Assumes nothing.
use Rattle.factor_dense.proofs.BlockSteps.{Going}
use Rattle.factor_dense.proofs.block.reduce_in_block.Given as goal

abbrev pub invariant-loop-t : goal.invariant-loop-t
invariant-loop-t l = Going l.q.p l.b l.ks l.block l.initial.rest l.rest l.xs l.t

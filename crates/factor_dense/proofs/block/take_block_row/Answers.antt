-- `take_block_row` meets its contract, cell after cell. Assumes nothing.
use mathlib.Core.Path.{◌≡◌}
use lib.ListN.{length}
use borrow.Author.Rules.{rules}
use native.Mathlib.Omega.{arith}
use Rattle.factor_dense.proofs.TakingRows.{taking-turn}
use Rattle.factor_dense.proofs.block.take_block_row.Goals as goal

pub loop-l-preserved : goal.loop-l-preserved
loop-l-preserved c =
    let long : length c.args.row ≡ 32 = search rules in
    let i = c.loop-l.invariant in
    taking-turn _ _ _ _ _ _ (omega (arith, c.loop-l-test.true)) (omega (arith, i.long, long, c.loop-l-test.true)) i c.minus.ensures

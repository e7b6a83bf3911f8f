-- `fill_settings` meets its contract; the loop's invariant is `Filling`: the settings of the free columns below c are stored. Assumes nothing.
use native.Mathlib.Omega.{arith}
use Rattle.answer_kernel.proofs.SettingsLoop.{filling-starts, filling-ready, filling-turn, filling-ends}
use Rattle.answer_kernel.proofs.settings.fill_settings.Goals as goal

pub loop-c-init : goal.loop-c-init
loop-c-init c = filling-starts _ _ _ _ _ _

pub fill_block-at-requires : goal.fill_block-at-requires
fill_block-at-requires c = filling-ready _ _ _ _ _ _ c.requires _ _ _ c.loop-c.invariant (omega arith)

pub loop-c-preserved : goal.loop-c-preserved
loop-c-preserved c = filling-turn _ _ _ _ _ _ _ _ _ c.loop-c.invariant _ _ (omega arith) c.fill_block-at.ensures

pub returns : goal.returns
returns c = filling-ends _ _ _ _ _ _ c.requires _ _ _ c.loop-c.invariant (omega arith)

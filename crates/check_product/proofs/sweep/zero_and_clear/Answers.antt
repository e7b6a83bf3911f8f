use native.Mathlib.Omega.{arith}
use Rattle.check_product.proofs.Rows.{clearing-starts, clearing-turn, clearing-ends}
use Rattle.check_product.proofs.sweep.zero_and_clear.Goals as goal

pub loop-x-init : goal.loop-x-init
loop-x-init c = clearing-starts _ _

pub loop-x-preserved : goal.loop-x-preserved
loop-x-preserved c = let l = c.loop-x in clearing-turn _ _ l.work l.zero c.still_zero-zero.result l.x-index (omega arith) c.still_zero-zero.ensures l.invariant

pub returns : goal.returns
returns c = let l = c.loop-x in clearing-ends _ _ l.work l.zero l.x-index (omega arith) l.invariant

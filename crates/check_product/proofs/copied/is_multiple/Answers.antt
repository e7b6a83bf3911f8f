use native.Mathlib.Omega.{arith}
use Rattle.check_product.proofs.MultipleLaws.{matching-ends}
use Rattle.check_product.proofs.copied.is_multiple.Goals as goal

pub returns : goal.returns
returns c = λ e. matching-ends _ _ _ _ _ _ c.loop-t.t (omega (arith, c.loop-t-test.false)) c.requires.paired c.requires.paired' c.loop-t.invariant

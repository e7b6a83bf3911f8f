-- `put_digits` meets its contract; the loop keeps that the digits of what is left of the number, then the bytes written, are the digits of the number. Assumes nothing.
use native.Mathlib.Omega.{arith}
use Rattle.print_text.proofs.Ending.{ending-start, ending-turn, ending-end}
use Rattle.print_text.proofs.number.put_digits.Goals as goal

pub loop-high-init : goal.loop-high-init
loop-high-init c = ending-start _ _ (omega arith) c.requires

pub loop-high-preserved : goal.loop-high-preserved
loop-high-preserved c = ending-turn c.loop-high.invariant _ (omega arith) c.digit.ensures

pub returns : goal.returns
returns c = ending-end c.loop-high.invariant _ (omega arith) c.digit-2.ensures

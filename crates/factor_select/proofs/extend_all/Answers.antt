-- `extend_all` meets its contract; the loop's invariant: the rows below i were taken. Assumes nothing.
use native.Mathlib.Omega.{arith}
use Rattle.factor_select.proofs.Taking.{turns-end}
use Rattle.factor_select.proofs.extend_all.Goals as goal

pub returns : goal.returns
returns c = turns-end _ _ _ _ _ _ _ c.requires _ _ _ _ _ c.loop-i.invariant (omega arith)

-- `take_marked` meets its contract: each way out is a law of `SettledRows`. Assumes nothing.
use mathlib.Core.Path.{refl}
use Rattle.factor_marked.proofs.SettledRows.{marked-over, marked-taken}
use Rattle.factor_marked.proofs.taking.take_marked.Goals as goal

pub returns-then-g : goal.returns-then-g
returns-then-g c = marked-over _ _ _ _ _ _ _ _ _ _ _ _ _ _ _ c.requires _ _ _ _ _ c.gather_row-g.ensures c.if-g.true _ _ _ _ _ _ _

pub returns : goal.returns
returns c = marked-taken _ _ _ _ _ _ _ _ _ _ _ _ _ _ _ c.requires _ _ _ _ _ c.gather_row-g.ensures c.if-g.false _ refl _ _ _ c.take_remainder.ensures

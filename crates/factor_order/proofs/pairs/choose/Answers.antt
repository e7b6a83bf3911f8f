-- `choose` meets its contract; the loop's invariant: the cells name the rows chosen among those passed. Assumes nothing.
use mathlib.Core.Path.{refl}
use Rattle.factor_order.proofs.Choosing.{chosen-starts}
use Rattle.factor_order.proofs.pairs.choose.Goals as goal

pub loop-i-init : goal.loop-i-init
loop-i-init c = (refl, chosen-starts _ _ c.requires.clear)

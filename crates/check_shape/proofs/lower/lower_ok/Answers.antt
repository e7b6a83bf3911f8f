use mathlib.Core.Path.{sym, ◌∙◌}
use native.Mathlib.Omega.{arith}
use Rattle.lists.proofs.Tests.{all_pass, all-fail}
use Rattle.pluq.specs.Shape.{lower}
use Rattle.check_shape.proofs.lower.lower_ok.Goals as goal

pub returns-then-not-lower_row : goal.returns-then-not-lower_row
unfolding lower
returns-then-not-lower_row c = let l = c.loop-k in sym (all-fail _ _ l.k (omega arith) (sym c.lower_row.ensures ∙ c.if-not-lower_row.true))

pub returns : goal.returns
unfolding lower
returns c = let l = c.loop-k in sym (all_pass _ _ (λ i h. l.invariant i (omega arith)))

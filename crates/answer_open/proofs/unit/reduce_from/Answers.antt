-- `reduce_from` meets its contract; the loop's invariant is `Passing`: rows k to i - 1 are taken away. Assumes nothing.
use mathlib.Core.Path.{◌∙◌}
use native.Mathlib.Omega.{arith}
use Rattle.answer_open.proofs.UnitLaws.{passing-column, passing-turn}
use Rattle.answer_open.proofs.unit.reduce_from.Goals as goal

pub reduce_by_row-requires : goal.reduce_by_row-requires
reduce_by_row-requires c =
    let l = c.loop-i in let f = c.requires.factor in
    record {
      positive = omega (arith, f.prime.two);
      formed = rw l.invariant.long f.formed;
      inside = omega (arith, f.rows);
      column = passing-column _ _ _ _ _ _ _ l.i _ f (omega arith) (c.index-c.ensures ∙ c.at.ensures.value) l.invariant;
      below = l.invariant.below;
    }

pub loop-i-preserved : goal.loop-i-preserved
loop-i-preserved c =
    let l = c.loop-i in let f = c.requires.factor in let place = c.index-c.ensures ∙ c.at.ensures.value in
    passing-turn _ _ _ _ _ _ _ _ l.i _ _ (omega (arith, f.prime.two)) (omega arith) place (passing-column _ _ _ _ _ _ _ l.i _ f (omega arith) place l.invariant) c.reduce_by_row.ensures l.invariant

-- `choose_values` meets its contract; the loop's invariant is `Choosing`: the pivot columns have 0, and the number is below 2 ^ 31. Assumes nothing.
use mathlib.Core.Path.{◌∙◌}
use native.Mathlib.Omega.{arith}
use Rattle.answer_open.proofs.WitnessLaws.{choosing-starts, choosing-place, choosing-turn}
use Rattle.answer_open.proofs.choose.choose_values.Goals as goal

pub loop-i-init : goal.loop-i-init
loop-i-init c = choosing-starts _ _ _ _ c.requires _ _ (omega arith) c.clear.ensures

pub bounds-values-c : goal.bounds-values-c
bounds-values-c c =
    choosing-place c.args.p _ _ _ c.requires c.loop-i.values _ c.loop-i.i _ (omega arith) (c.index-c.ensures ∙ c.at.ensures.value) c.loop-i.invariant

pub loop-i-preserved : goal.loop-i-preserved
loop-i-preserved c =
    choosing-turn c.args.p _ _ _ c.requires c.loop-i.values _ c.loop-i.i _ (omega arith) (c.index-c.ensures ∙ c.at.ensures.value) c.loop-i.invariant c.residue_from.result _ c.residue_from.ensures c.next_number-x.ensures

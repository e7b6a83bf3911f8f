-- `gap` meets its contract: the order gives position i one of the slot values. Assumes nothing.
use mathlib.Core.Path.{◌∙◌}
use Rattle.answer_slots.proofs.GapTurn.{slot-inside}
use Rattle.answer_slots.proofs.gaps.gap.Goals as goal

pub bounds-h-slot : goal.bounds-h-slot
bounds-h-slot c = slot-inside c.args.q.p c.args.i _ _ _ _ c.requires _ (c.index-slot.ensures ∙ c.at.ensures.value)

-- `settle_next` meets its contract: one row by its unit question, then those before it by counts. Assumes nothing.
use mathlib.Core.Path.{◌∙◌}
use Rattle.answer_open.proofs.SettleSteps.{next_place, next-counting}
use Rattle.answer_open.proofs.pivots.settle_next.Goals as goal

pub bounds-marks-j : goal.bounds-marks-j
bounds-marks-j c = next_place _ _ _ _ _ _ _ c.requires _ (c.index-j.ensures ∙ c.at.ensures.value)

pub settle_by_counts-requires : goal.settle_by_counts-requires
settle_by_counts-requires c = next-counting _ _ _ _ _ _ _ c.requires _ _ _ (c.index-j.ensures ∙ c.at.ensures.value) c.unit_open.ensures

-- `pivot_open` meets its contract, by the mark and by the law of each count. Assumes nothing.
use mathlib.Core.Path.{◌∙◌}
use native.Mathlib.Omega.{arith}
use Rattle.answer_open.proofs.PivotLaws.{pivot-place, pivot-opened, pivot-closed}
use Rattle.answer_open.proofs.pivots.pivot_open.Goals as goal

pub bounds-marks-index : goal.bounds-marks-index
bounds-marks-index c = pivot-place _ _ _ _ _ _ _ c.requires c.index.result (c.index.ensures ∙ c.at-d.ensures.value)

pub returns-then-closed-eq0 : goal.returns-then-closed-eq0
returns-then-closed-eq0 c = pivot-opened _ _ _ _ _ _ _ c.requires _ _ c.at-d.ensures.value c.row_closed-closed.ensures (omega arith)

pub returns-then-closed-eq1 : goal.returns-then-closed-eq1
returns-then-closed-eq1 c = pivot-closed _ _ _ _ _ _ _ c.requires _ _ c.at-d.ensures.value c.row_closed-closed.ensures (omega arith)

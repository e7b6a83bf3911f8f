-- `unit_open` meets its contract: the rows before row k leave the unit question as it is. Assumes nothing.
use mathlib.Core.Path.{◌∙◌}
use native.Mathlib.Omega.{arith}
use Rattle.answer_open.proofs.UnitLaws.{unit-inside, unit-ready, unit-closed, unit-opened}
use Rattle.answer_open.proofs.unit.unit_open.Goals as goal

pub bounds-work-j : goal.bounds-work-j
bounds-work-j c = unit-inside c.args.q.p _ _ _ _ _ c.requires _ (c.index-j.ensures ∙ c.at.ensures.value)

pub reduce_from-requires : goal.reduce_from-requires
reduce_from-requires c = unit-ready c.args.q.p _ _ _ _ _ c.requires _ (c.index-j.ensures ∙ c.at.ensures.value)

pub returns-then-low-m : goal.returns-then-low-m
returns-then-low-m c =
    unit-closed c.args.q.p _ _ _ _ _ c.requires _ (c.index-j.ensures ∙ c.at.ensures.value) c.reduce_from.new.work _ _ c.reduce_from.auto.work c.reduce_from.ensures
    c.lowest_nonzero-low.ensures c.clear_row.ensures (omega (arith, c.if-low-m.true))

pub returns : goal.returns
returns c =
    unit-opened c.args.q.p _ _ _ _ _ c.requires _ (c.index-j.ensures ∙ c.at.ensures.value) c.reduce_from.new.work _ _ c.reduce_from.auto.work c.reduce_from.ensures
    c.lowest_nonzero-low.ensures c.clear_row.ensures (omega (arith, c.if-low-m.false))

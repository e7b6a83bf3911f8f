-- `take_pair_row` meets its contract: a row that was taken can be entered or its row of L kept, and what is left then is a turn, both by laws of `TakeRow`. Assumes nothing.
use mathlib.Core.Path.{refl}
use Rattle.factor_turn.proofs.Readiness.{pair-ready}
use Rattle.factor_turn.proofs.TakeRow.{pair_found, settle-ready, row_settled}
use Rattle.factor_turn.proofs.turn.take_pair_row.Goals as goal

pub take_pair-step-requires : goal.take_pair-step-requires
take_pair-step-requires c = pair-ready _ _ _ _ _ _ _ _ _ _ c.requires refl _ c.index-c.ensures

pub settle-requires : goal.settle-requires
settle-requires c =
    let h = c.requires in
    settle-ready _ _ _ _ _ _ _ _ _ _ h _ _ _ _ _ _ (pair_found _ _ _ _ _ _ _ _ _ _ h _ _ _ _ _ _ refl _ c.index-c.ensures c.take_pair-step.ensures) _ c.take_pair-step.auto.work

pub returns : goal.returns
returns c =
    let h = c.requires in
    row_settled _ _ _ _ _ _ _ _ _ _ h _ _ _ _ _ _ (pair_found _ _ _ _ _ _ _ _ _ _ h _ _ _ _ _ _ refl _ c.index-c.ensures c.take_pair-step.ensures) _ c.take_pair-step.auto.work _ _ _ _ _ c.settle.ensures

-- `take_marked_row` meets its contract: a row that was taken can be entered or its row of L kept, and what is left then is a turn. Assumes nothing.
use Rattle.factor_turn.proofs.TakeRow.{settle-ready, row_settled}
use Rattle.factor_others.proofs.OtherPass.{marked-ready}
use Rattle.factor_others.proofs.rows.take_marked_row.Goals as goal

pub take_marked-step-requires : goal.take_marked-step-requires
take_marked-step-requires c = marked-ready _ _ _ _ _ _ _ _ _ _ c.requires

pub settle-requires : goal.settle-requires
settle-requires c = settle-ready _ _ _ _ _ _ _ _ _ _ c.requires.turn _ _ _ _ _ _ c.take_marked-step.ensures _ c.take_marked-step.auto.work

pub returns : goal.returns
returns c = row_settled _ _ _ _ _ _ _ _ _ _ c.requires.turn _ _ _ _ _ _ c.take_marked-step.ensures _ c.take_marked-step.auto.work _ _ _ _ _ c.settle.ensures

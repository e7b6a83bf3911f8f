-- `mark_round` meets its contract: where the values end as another number than 0 the column is closed. Assumes nothing.
use Rattle.answer_open.proofs.WitnessLaws.{round-solves, round-marks, round-closes}
use Rattle.answer_open.proofs.witness.mark_round.Goals as goal

pub solve_upper-requires : goal.solve_upper-requires
solve_upper-requires c = round-solves _ _ _ _ _ _ _ c.requires _ c.choose_values.auto.values c.choose_values.ensures

pub mark_nonzero-requires : goal.mark_nonzero-requires
mark_nonzero-requires c = round-marks _ _ _ _ _ _ _ c.requires _ c.choose_values.auto.values c.choose_values.ensures _ c.solve_upper.ensures

pub returns : goal.returns
returns c = round-closes _ _ _ _ _ _ _ c.requires _ c.choose_values.auto.values c.choose_values.ensures _ c.solve_upper.ensures _ c.mark_nonzero.ensures

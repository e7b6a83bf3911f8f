-- `deliver` meets its contract: what was refused before, a buffer that is too short, or the bytes put in it.
use Rattle.std.proofs.Common.{ap}
use Rattle.refusals.specs.Outcome.{outcome_of}
use Rattle.refusals.proofs.Results.{is_left}
use Rattle.text_calls.proofs.Reporting.{refused-before, too_short, put}
use Rattle.text_calls.proofs.report.deliver.Goals as goal

pub returns-in_err-outcome : goal.returns-in_err-outcome
returns-in_err-outcome c =
    rw (is_left c.from_residual.result _ c.from_residual.ensures.1) (refused-before _ _ _ _ (ap outcome_of c.in_err-outcome.was) c.clear_bytes.ensures)

pub returns-in_err-demand : goal.returns-in_err-demand
returns-in_err-demand c =
    rw (is_left c.from_residual-in_err-demand.result _ c.from_residual-in_err-demand.ensures.1)
    (too_short _ _ _ _ (ap outcome_of c.in_ok-outcome.was) _ c.clear_bytes.auto.bytes c.in_err-demand.ensures c.clear_bytes.ensures)

pub returns : goal.returns
returns c =
    put _ _ _ _ (ap outcome_of c.in_ok-outcome.was) _ c.clear_bytes.auto.bytes c.in_ok-demand.ensures _ _ c.clear_bytes.ensures c.put_bytes.ensures

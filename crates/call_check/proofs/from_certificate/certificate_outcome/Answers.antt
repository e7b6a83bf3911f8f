-- `certificate_outcome` meets its contract: its tests are those of the definition, in order.
use Rattle.std.proofs.Common.{rules}
use Rattle.refusals.proofs.Results.{chain}
use Rattle.call_check.specs.Calls.{certificate_outcome}
use Rattle.call_check.proofs.from_certificate.certificate_outcome.Goals as goal

pub returns-in_err-demand : goal.returns-in_err-demand
unfolding certificate_outcome
returns-in_err-demand c = search (rules, chain)

pub returns-in_err-plan_outcome : goal.returns-in_err-plan_outcome
unfolding certificate_outcome
returns-in_err-plan_outcome c = search (rules, chain)

pub returns : goal.returns
unfolding certificate_outcome
returns c = search (rules, chain)

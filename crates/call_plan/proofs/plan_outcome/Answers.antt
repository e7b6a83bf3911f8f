-- `plan_outcome` meets its contract: its tests are those of the definition, in order.
use Rattle.std.proofs.Common.{rules}
use Rattle.refusals.proofs.Results.{chain}
use Rattle.call_plan.specs.Tests.{plan_outcome}
use Rattle.call_plan.proofs.plan_outcome.Goals as goal

pub returns-in_err-demand : goal.returns-in_err-demand
unfolding plan_outcome
returns-in_err-demand c = search (rules, chain)

pub returns-in_err-demand-2 : goal.returns-in_err-demand-2
unfolding plan_outcome
returns-in_err-demand-2 c = search (rules, chain)

pub returns : goal.returns
unfolding plan_outcome
returns c = search (rules, chain)

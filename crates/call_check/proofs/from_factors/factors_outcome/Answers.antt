-- `factors_outcome` meets its contract: its tests are those of the definition, in order.
use Rattle.std.proofs.Common.{rules}
use Rattle.refusals.proofs.Results.{chain}
use Rattle.call_check.specs.Calls.{factors_outcome}
use Rattle.call_check.proofs.from_factors.factors_outcome.Goals as goal

pub returns-in_err-demand : goal.returns-in_err-demand
unfolding factors_outcome
returns-in_err-demand c = search (rules, chain)

pub returns : goal.returns
unfolding factors_outcome
returns c = search (rules, chain)

-- `rank_staged` meets its contract.
use Rattle.std.proofs.Common.{sym, ap, ◌∙◌, Result}
use Rattle.stages.specs.Results.{stages_of}
use Rattle.stages.specs.declared.FactoredPlan.{FactoredPlan}
use Rattle.stages.specs.declared.Stopped.{Stopped}
use Rattle.stages.proofs.Stopping.{stopped-first}
use Rattle.bench_calls.specs.Timed.{held_rank}
use Rattle.bench_calls.proofs.Ranked.{refused-rank}
use Rattle.bench_calls.proofs.rank_staged.Goals as goal

pub returns-in-Ok : goal.returns-in-Ok
unfolding held_rank
returns-in-Ok c = ap (λ (x : Result FactoredPlan Stopped). held_rank (stages_of x)) (sym c.in-Ok.is)

pub returns-in-Err : goal.returns-in-Err
returns-in-Err c =
    refused-rank _ (stopped-first c.in-Err.field-0)
    ∙ ap (λ (x : Result FactoredPlan Stopped). held_rank (stages_of x)) (sym c.in-Err.is)

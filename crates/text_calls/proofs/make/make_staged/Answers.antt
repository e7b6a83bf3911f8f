-- `make_staged` meets its contract: the refusal of a stage, or what writing gives.
use Rattle.std.proofs.Common.{refl, sym, ap, ◌∙◌, Result, Ok}
use Rattle.sparse.specs.Matrix.{compressed}
use Rattle.sparse.specs.Set.{storage_of}
use Rattle.stages.specs.Results.{stages_of}
use Rattle.stages.specs.Staged.{stages_outcome}
use Rattle.stages.specs.declared.FactoredPlan.{FactoredPlan}
use Rattle.stages.specs.declared.Stopped.{Stopped}
use Rattle.stages.proofs.Stopping.{stopped-first}
use Rattle.text_calls.proofs.Making.{stages-refused, written}
use Rattle.text_calls.proofs.make.make_staged.Goals as goal

pub returns-in-Ok : goal.returns-in-Ok
returns-in-Ok c =
    rw c.in-Ok.is
    (written (stages_of (Ok c.in-Ok.plan)) (compressed _ _ _) (storage_of _ _ (compressed _ _ _) (compressed _ _ _) _) _ _ refl refl _ c.write_held.ensures)

pub returns-in-Err : goal.returns-in-Err
returns-in-Err c =
    rw c.into.ensures
    (stages-refused _ (compressed _ _ _) (storage_of _ _ (compressed _ _ _) (compressed _ _ _) _) _ _
    (stopped-first c.in-Err.stopped ∙ ap (λ (x : Result FactoredPlan Stopped). stages_outcome (stages_of x)) (sym c.in-Err.is)) c.clear_bytes.ensures)

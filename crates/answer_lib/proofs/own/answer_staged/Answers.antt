-- `answer_staged` meets its contract: the refusal of a stage, or the answer.
use Rattle.std.proofs.Common.{refl, sym, ap, ◌∙◌, Result, Ok}
use Rattle.sparse.specs.Matrix.{compressed}
use Rattle.sparse.specs.Set.{storage_of}
use Rattle.stages.specs.Results.{stages_of}
use Rattle.stages.specs.Staged.{stages_outcome}
use Rattle.stages.specs.declared.FactoredPlan.{FactoredPlan}
use Rattle.stages.specs.declared.Stopped.{Stopped}
use Rattle.stages.proofs.Stopping.{stopped-first}
use Rattle.answer_lib.proofs.Answered.{stages-refuse, stages-answer}
use Rattle.answer_lib.proofs.own.answer_staged.Goals as goal

pub returns-in-Err : goal.returns-in-Err
returns-in-Err c =
    rw c.into.ensures
    (stages-refuse _ (compressed _ _ _) (storage_of _ _ (compressed _ _ _) (compressed _ _ _) _) _ _ _ _ _ _ _
    (stopped-first c.in-Err.stopped ∙ ap (λ (x : Result FactoredPlan Stopped). stages_outcome (stages_of x)) (sym c.in-Err.is))
    c.clear.ensures c.clear-in-Err.ensures c.requires.clear)

pub returns : goal.returns
returns c =
    rw c.in-Ok.is
    (stages-answer (stages_of (Ok c.in-Ok.plan)) (compressed _ _ _) (storage_of _ _ (compressed _ _ _) (compressed _ _ _) _) _ _ _ _ _ refl _ _ c.answer_held.ensures)

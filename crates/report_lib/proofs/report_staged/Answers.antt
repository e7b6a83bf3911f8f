-- `report_staged` meets its contract: each way out is a law of `Printing`.
use Rattle.std.proofs.Common.{◌≡◌, refl, ap, ◌∙◌, Result, Ok, Err}
use Rattle.sparse.specs.Matrix.{compressed}
use Rattle.sparse.specs.Set.{storage_of}
use Rattle.print_text.proofs.Room.{refusal-room}
use Rattle.stages.specs.Results.{stages_of}
use Rattle.stages.specs.declared.FactoredPlan.{FactoredPlan}
use Rattle.stages.specs.declared.Stopped.{Stopped}
use Rattle.stages.specs.declared.Stopped.TheVariants.{InReading, InFactoring}
use Rattle.report_lib.proofs.Printing.{read-refused, factoring-refused, factoring-done}
use Rattle.report_lib.proofs.report_staged.Goals as goal

pub write_refusal-requires : goal.write_refusal-requires
write_refusal-requires c = refusal-room _ _ c.args.out.now c.requires.room

pub returns-in-Err-InReading : goal.returns-in-Err-InReading
returns-in-Err-InReading c =
    let r = c.in-Err-InReading in
    let of : r.field-0 ≡ InReading r.refusal = rw r.is at r.field-0-is in
    read-refused _ (compressed _ _ _) (storage_of _ _ (compressed _ _ _) (compressed _ _ _) _) _ _ _ _
    (ap (λ (x : Result FactoredPlan Stopped). (stages_of x).reading.outcome) (r.is ∙ ap Err of)) c.requires.clear c.write_refusal.ensures

pub write_refusal-requires-in-Err-InFactoring : goal.write_refusal-requires-in-Err-InFactoring
write_refusal-requires-in-Err-InFactoring c = refusal-room _ _ c.args.out.now c.requires.room

pub returns-in-Err-InFactoring : goal.returns-in-Err-InFactoring
returns-in-Err-InFactoring c =
    let r = c.in-Err-InFactoring in
    let of : r.field-0 ≡ InFactoring r.field-0-0 r.refusal = rw r.is at r.field-0-is in
    let is = r.is ∙ ap Err of in
    factoring-refused _ (compressed _ _ _) (storage_of _ _ (compressed _ _ _) (compressed _ _ _) _) _ _ _ _
    (ap (λ (x : Result FactoredPlan Stopped). (stages_of x).reading.outcome) is) _ _
    (ap (λ (x : Result FactoredPlan Stopped). (stages_of x).factored.outcome) is) c.requires.clear c.from_one.ensures c.write_refusal-in-Err-InFactoring.ensures

pub returns : goal.returns
returns c =
    rw c.in-Ok.is
    (factoring-done (stages_of (Ok c.in-Ok.plan)) (compressed _ _ _) (storage_of _ _ (compressed _ _ _) (compressed _ _ _) _) _ _ _ _ refl _ refl c.report_held.ensures)

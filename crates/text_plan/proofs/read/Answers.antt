-- `read` meets its contract: the lists are cleared, their lengths tested, and then the text is read. Assumes nothing.
use mathlib.Core.Path.{refl, sym, ◌∙◌, subst}
use Prim.Native.Nat.{ℕ}
use borrow.Author.Tests.{eqb-true, eqb-false}
use Rattle.refusals.proofs.Results.{held}
use Rattle.text_opening.specs.Reading.{read_of}
use Rattle.text_plan.specs.Call.{read_answer_of, reading_of, Gives}
use Rattle.text_plan.proofs.Answers.{wrong-long, call-reads, call-starts, call-lists}
use Rattle.text_plan.proofs.read.Goals as goal

pub returns-in_err-demand : goal.returns-in_err-demand
returns-in_err-demand c =
    let w = wrong-long _ _ _ c.from_residual.ensures.1 c.in_err-demand.ensures in
    call-starts _ _ _ _ _ _ _ _ w.1 c.clear.ensures c.clear-2.ensures c.clear-3.ensures (λ e. eqb-false _ _ w.0 (c.clear.auto.list ∙ e))

pub returns-in_err-demand-2 : goal.returns-in_err-demand-2
returns-in_err-demand-2 c =
    let w = wrong-long _ _ _ c.from_residual-in_err-demand-2.ensures.1 c.in_err-demand-2.ensures in
    let starts = eqb-true _ _ (held _ _ _ _ c.in_ok-demand.ensures refl) in
    call-lists _ _ _ _ _ _ _ _ w.1 c.clear.ensures c.clear-2.ensures c.clear-3.ensures
    (sym c.clear.auto.list ∙ starts) (λ e. eqb-false _ _ w.0 (c.clear-2.auto.list ∙ e ∙ sym c.clear-3.auto.list))

pub returns : goal.returns
returns c =
    let text = c.args.text.now in
    let starts = eqb-true _ _ (held _ _ _ _ c.in_ok-demand.ensures refl) in
    let lists = eqb-true _ _ (held _ _ _ _ c.in_ok-demand-2.ensures refl) in
    call-reads text _ _ _ _ _ _ _ (sym c.clear.auto.list ∙ starts) (sym c.clear-2.auto.list ∙ lists ∙ c.clear-3.auto.list)
    (subst (λ (n : ℕ). Gives (read_answer_of n (read_of n text)) (reading_of c.fill.result) c.fill.new.starts c.fill.new.cols c.fill.new.vals) c.clear-2.auto.list c.fill.ensures)

-- `asked_of_certificate` meets its contract: each way out is a law of `Ways`.
use Rattle.std.proofs.Common.{refl, sym, ap, ◌∙◌, arith}
use Rattle.refusals.specs.declared.Refusal.{Refusal}
use Rattle.refusals.specs.Faults.{number}
use Rattle.refusals.specs.Outcome.{Refused}
use Rattle.refusals.proofs.Results.{left}
use Rattle.call_check.proofs.Outcomes.{checks}
use Rattle.call_answer.proofs.Lengths.{lengths-are}
use Rattle.call_answer.proofs.Ways.{wrong-lengths, check-refused, question-tested}
use Rattle.call_answer.proofs.from_certificate.asked_of_certificate.Goals as goal

pub returns-then-not-question_lengths : goal.returns-then-not-question_lengths
returns-then-not-question_lengths c = checks _ _ _ _ (ap (λ (r : Refusal). Refused (number r.fault) r.detail) c.into.ensures ∙ wrong-lengths _ _ _ _ _ _ _ (sym c.question_lengths.ensures ∙ c.if-not-question_lengths.true)) c.clear_row.ensures

pub returns-in_err-check_bytes : goal.returns-in_err-check_bytes
returns-in_err-check_bytes c =
    checks _ _ _ _
    (left _ _ c.from_residual.ensures.1 ∙ check-refused _ _ _ _ _ _ _ (sym c.question_lengths.ensures ∙ c.if-not-question_lengths.false) _ c.in_err-check_bytes.ensures.outcome _ _ refl)
    c.in_err-check_bytes.ensures.cleared

pub question_ok-requires : goal.question_ok-requires
question_ok-requires c = omega (arith, c.ranges.m, (lengths-are _ _ _ _ _ (sym c.question_lengths.ensures ∙ c.if-not-question_lengths.false)).0)

pub returns : goal.returns
returns c =
    checks _ _ _ _
    (question-tested _ _ _ _ _ _ _ (sym c.question_lengths.ensures ∙ c.if-not-question_lengths.false) _ c.in_ok-check_bytes.ensures.outcome refl _ c.question_ok.ensures)
    c.in_ok-check_bytes.ensures.cleared

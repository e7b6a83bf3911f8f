-- Reading a text and checking a certificate against its plan: one law for each way out.
use mathlib.Core.Path.{◌≡◌, refl, sym, ap, ◌∙◌}
use mathlib.Core.List.{List}
use Prim.Native.Nat.{ℕ}
use lib.ListN.{length}
use Rattle.refusals.specs.Refusals.{◌▷◌}
use Rattle.refusals.specs.Outcome.{Outcome}
use Rattle.refusals.specs.Outcome.{Passed, Refused}
use Rattle.refusals.proofs.Refusals.{refused, after-passed}
use Rattle.sparse.specs.Matrix.{Compressed}
use Rattle.text_plan.specs.Call.{ReadAnswer}
use Rattle.text_owners.specs.Call.{owners_length, text_call_of, GivesText}
use Rattle.text_plan.specs.Call.{Reading}
use Rattle.limits.specs.Limits.{work_length}
use Rattle.call_check.specs.Calls.{check_certificate_of}
use Rattle.stages.specs.Stages.{read_text}
use Rattle.text_plan.specs.Held.{held_plan}
use Rattle.stages.specs.Lists.{Held}
use Rattle.stages.proofs.Holding.{as-reading, held, answer-is}
use Rattle.text_calls.specs.Calls.{check_read_of, check_text_of}
use Rattle.text_calls.specs.Needs.{CheckLists}

module _ (text : List ℕ) (A₀ A : Compressed) (w : List ℕ) (d : CheckLists A₀ w) (k : ℕ) (ow : List ℕ) (long : k ≡ owners_length) (r : Reading)
    (read : GivesText (text_call_of text (length A₀.starts) (length A₀.cols) (length A₀.vals) k) r A.starts A.cols A.vals ow) where
  given : GivesText (read_text text) r A.starts A.cols A.vals ow
  given = as-reading text A₀ d.plan k long r A ow read

  pub plan-held : length A.starts ≡ length A₀.starts → length A.cols ≡ length A₀.cols → length A.vals ≡ length A₀.vals → Held r A
  plan-held a b c =
      held text r A given.plan
      (record { starts-length = a ∙ d.plan.starts-length; columns-length = b ∙ d.plan.columns-length; values_length = c ∙ d.plan.values_length })

  abbrev checked : List ℕ → ℕ → Outcome
  checked cert = check_certificate_of r.p r.n r.m (held_plan r A) cert

  answered : (cert : List ℕ) → (r.outcome ▷ checked cert work_length) ≡ check_text_of text cert
  unfolding check_text_of check_read_of
  answered cert = ap (λ (x : ReadAnswer). check_read_of x cert) (answer-is text r A given.plan)

  pub text-refused : (cert : List ℕ) {k d : ℕ} → r.outcome ≡ Refused k d → r.outcome ≡ check_text_of text cert
  text-refused cert e = refused r.outcome r.outcome (checked cert work_length) _ _ e refl ∙ answered cert

  pub text-checked : (cert : List ℕ) (o : Outcome) → r.outcome ≡ Passed → o ≡ checked cert (length w) → o ≡ check_text_of text cert
  text-checked cert o z e = e ∙ ap (checked cert) d.work-length ∙ sym (after-passed r.outcome (checked cert work_length) z) ∙ answered cert

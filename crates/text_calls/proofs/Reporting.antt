-- Reporting into a buffer: one law for each way out of putting bytes in it, and what comes of the report of a text.
use mathlib.Core.Path.{◌≡◌, refl, sym, ap, ◌∙◌}
use mathlib.Core.List.{List}
use Prim.Native.Nat.{ℕ, ◌-◌, ◌≤◌}
use native.Mathlib.Omega.{arith}
use lib.Dec.{leb}
use lib.ListN.{length, take, length-append}
use borrow.Author.Tests.{leb-true}
use Rattle.lists.specs.Filled.{zeros, filled}
use Rattle.lists.specs.Stored.{Stored}
use Rattle.lists.proofs.Stored.{stored-filled}
use Rattle.refusals.specs.Table.{wrong_length}
use Rattle.refusals.specs.Refusals.{◌▷◌, unless}
use Rattle.refusals.specs.Outcome.{Outcome}
use Rattle.refusals.specs.Outcome.{Passed, Refused, outcome_of}
use Rattle.refusals.proofs.Refusals.{refused, unless-true, after-passed}
use Rattle.certificate.specs.Writing.{room_for}
use Rattle.call_write.specs.Call.{bytes_given}
use Rattle.print_text.proofs.Shown.{fills-shown}
use Rattle.report_lib.specs.declared.Reported.{Reported}
use Rattle.report_lib.specs.Reporting.{report_of, ReportsAll}
use Rattle.text_calls.specs.Calls.{packed, report_text_of, ReportsText}
use Rattle.text_calls.specs.Held.{Puts}
use Rattle.text_calls.proofs.Making.{refusal}

module _ (o : Outcome) (bytes b₀ b : List ℕ) where
  abbrev whole : Outcome
  whole = o ▷ room_for (length b₀) bytes

  pub refused-before : {k d : ℕ} → o ≡ Refused k d → b ≡ zeros (length b₀) → Puts whole bytes (Refused k d) b₀ b
  refused-before e = refusal whole bytes (Refused _ _) b₀ b refl (refused (Refused _ _) o (room_for (length b₀) bytes) _ _ refl (sym e))

  module _ (passed : o ≡ Passed) (k : ℕ) (same : k ≡ length b₀) where
    tested : unless (leb (length bytes) k) wrong_length 0 ≡ whole
    tested = ap (λ (n : ℕ). room_for n bytes) same ∙ sym (after-passed o (room_for (length b₀) bytes) passed)

    pub too_short : {n d : ℕ} → Refused n d ≡ unless (leb (length bytes) k) wrong_length 0 → b ≡ zeros (length b₀) → Puts whole bytes (Refused n d) b₀ b
    too_short e = refusal whole bytes (Refused _ _) b₀ b refl (e ∙ tested)

    pub put : Passed ≡ unless (leb (length bytes) k) wrong_length 0 → (b₁ : List ℕ) (next : ℕ) → b₁ ≡ zeros (length b₀) → Stored b₁ b 0 next bytes → Puts whole bytes Passed b₀ b
    put e b₁ next z s =
        let is = e ∙ tested in
        let h = leb-true (length bytes) k (unless-true _ _ _ (sym e)) in
        record { outcome = is; buffer = stored-filled (length b₀) (omega (arith, h, same)) z s ∙ ap (λ (r : Outcome). filled (length b₀) (bytes_given r bytes)) is }

-- ---- the report of a text: p₀ and p are the buffer in which it was printed, before and after

module _ (text : List ℕ) (r : Reported) (p₀ p w₀ w : List ℕ) (call : ReportsAll text r p₀ p w₀ w) where
  bytes-are : take r.size p ≡ report_of text
  bytes-are = fills-shown p₀ p r.size (report_of text) call.reports.report

  pub printed-inside : r.size ≤ length p
  unfolding filled
  printed-inside =
      let f = call.reports.report in
      omega (arith, f.size_is, ap length f.buffer-is, length-append (report_of text) (zeros (length p₀ - length (report_of text))))

  pub reports-text : (b₀ b : List ℕ) (o : Outcome) (z : ℕ) → z ≡ packed o → Puts (outcome_of r.outcome ▷ room_for (length b₀) (take r.size p)) (take r.size p) o b₀ b → ReportsText text z b₀ b
  unfolding report_text_of
  reports-text b₀ b o z e puts =
      let is : (outcome_of r.outcome ▷ room_for (length b₀) (take r.size p)) ≡ report_text_of text (length b₀) = λ t. call.outcome t ▷ room_for (length b₀) (bytes-are t) in
      record {
        number = e ∙ ap packed (puts.outcome ∙ is);
        buffer = puts.buffer ∙ (λ t. filled (length b₀) (bytes_given (is t) (bytes-are t)));
      }

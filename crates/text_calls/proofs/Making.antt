-- Making a certificate of what the stages left: one law for each way out, and what is made of the stages of a text.
use mathlib.Core.Path.{◌≡◌, refl, sym, ap, ◌∙◌, subst}
use mathlib.Core.List.{List}
use Prim.Native.Nat.{ℕ}
use lib.ListN.{length}
use Rattle.lists.specs.Filled.{zeros, filled}
use Rattle.refusals.specs.Refusals.{◌▷◌}
use Rattle.refusals.specs.Outcome.{Outcome}
use Rattle.refusals.specs.Outcome.{Passed, Refused}
use Rattle.refusals.proofs.Refusals.{after-passed, then-after}
use Rattle.lists.proofs.Filled.{filled_none}
use Rattle.sparse.specs.Matrix.{Compressed}
use Rattle.sparse.specs.Set.{Storage}
use Rattle.text_plan.specs.Call.{ReadAnswer}
use Rattle.text_plan.specs.Call.{Reading}
use Rattle.limits.specs.Limits.{work_length}
use Rattle.certificate.specs.Layout.{certificate_of}
use Rattle.call_write.specs.Call.{write_outcome, bytes_given}
use Rattle.factor_all.specs.Factorization.{Factorization}
use Rattle.stages.specs.Results.{Stages}
use Rattle.stages.specs.Stages.{reading, factored_of, set_factored}
use Rattle.text_plan.specs.Held.{plan_of}
use Rattle.stages.specs.Staged.{stages_outcome, FactorsHeld, Staged}
use Rattle.text_calls.specs.Calls.{packed, make_read_of, make_text_of, certificate_for, Makes}
use Rattle.text_calls.specs.Held.{held_certificate, written_of, staged_outcome, Puts}
use Rattle.text_calls.specs.Needs.{StagedFits}

-- a refusal leaves the buffer all zero
pub refusal : (o : Outcome) (cert : List ℕ) (r : Outcome) (b₀ b : List ℕ) {k d : ℕ} → r ≡ Refused k d → r ≡ o → b ≡ zeros (length b₀) → Puts o cert r b₀ b
refusal o cert r b₀ b e q z =
    record {
      outcome = q;
      buffer = z ∙ sym (filled_none (length b₀)) ∙ ap (λ (x : Outcome). filled (length b₀) (bytes_given x cert)) (sym e ∙ q);
    }

module _ (s : Stages) (A : Compressed) (h : Storage) (b₀ b : List ℕ) where
  abbrev writing-is : Outcome
  writing-is = written_of s A h (length b₀)

  abbrev made : Outcome → Type 0
  made o = Puts (staged_outcome s A h (length b₀)) (held_certificate s h) o b₀ b

  pub stages-refused : {k d : ℕ} → Refused k d ≡ stages_outcome s → b ≡ zeros (length b₀) → made (Refused k d)
  unfolding staged_outcome
  stages-refused e =
      refusal (staged_outcome s A h (length b₀)) (held_certificate s h) _ b₀ b refl
      (ap (λ (o : Outcome). o ▷ writing-is) e ∙ then-after s.reading.outcome s.factored.outcome writing-is)

  module _ (z : s.reading.outcome ≡ Passed) where
    read_done : (s.factored.outcome ▷ writing-is) ≡ staged_outcome s A h (length b₀)
    unfolding staged_outcome
    read_done = sym (after-passed s.reading.outcome (s.factored.outcome ▷ writing-is) z)

    pub written : s.factored.outcome ≡ Passed → (o : Outcome) → Puts writing-is (held_certificate s h) o b₀ b → made o
    written q o = subst (λ (x : Outcome). Puts x (held_certificate s h) o b₀ b) (sym (after-passed s.factored.outcome writing-is q) ∙ read_done)

-- ---- the stages of a text

-- two outcomes after a test that agree where it passes; a certificate counts only where the outcome is passed
record Same (o o' : Outcome) (c c' : List ℕ) : Type 0 where
  outcome : o ≡ o'
  kept_same : bytes_given o c ≡ bytes_given o' c'

after : (t o o' : Outcome) (c c' : List ℕ) → (t ≡ Passed → Same o o' c c') → Same (t ▷ o) (t ▷ o') c c'
after Passed o o' c c' f = f refl
after (Refused k d) o o' c c' f = record { outcome = refl; kept_same = refl }

module _ (text : List ℕ) (s : Stages) (A : Compressed) (w₀ : List ℕ) (h : Storage) (staged : Staged text s A w₀ h) where
  pub staged-fits : StagedFits s A h
  staged-fits = record { fits = λ z. (staged.factors z).fits }

  module _ (wide : length h.work ≡ work_length) (b₀ b : List ℕ) where
    abbrev x : ReadAnswer
    x = reading text

    abbrev f : Factorization
    f = factored_of x

    abbrev writing : Outcome
    writing = write_outcome x.result.p x.result.n x.result.m (plan_of x) (set_factored f) work_length (length b₀)

    held : FactorsHeld x s A h → s.factored.outcome ≡ Passed → Same (written_of s A h (length b₀)) writing (held_certificate s h) (certificate_for x)
    unfolding certificate_for
    held g q =
        let o : written_of s A h (length b₀) ≡ writing =
        λ t. write_outcome (staged.reading-is t).p (staged.reading-is t).n (staged.reading-is t).m (g.plan-is t) (g.set_is q t) (wide t) (length b₀) in
        let c : held_certificate s h ≡ certificate_for x = λ t. certificate_of (staged.reading-is t).p (staged.reading-is t).n (staged.reading-is t).m (g.set_is q t) in
        record { outcome = o; kept_same = λ t. bytes_given (o t) (c t) }

    factored : FactorsHeld x s A h → Same (s.factored.outcome ▷ written_of s A h (length b₀)) (f.outcome ▷ writing) (held_certificate s h) (certificate_for x)
    factored g =
        let e = after s.factored.outcome (written_of s A h (length b₀)) writing (held_certificate s h) (certificate_for x) (held g) in
        let n : (s.factored.outcome ▷ writing) ≡ (f.outcome ▷ writing) = ap (λ (o : Outcome). o ▷ writing) g.outcome-is in
        record { outcome = e.outcome ∙ n; kept_same = e.kept_same ∙ ap (λ (o : Outcome). bytes_given o (certificate_for x)) n }

    whole : Same (staged_outcome s A h (length b₀)) (make_text_of text (length b₀)) (held_certificate s h) (certificate_for x)
    unfolding staged_outcome make_text_of make_read_of
    whole =
        let e = after s.reading.outcome _ (f.outcome ▷ writing) (held_certificate s h) (certificate_for x) (λ q. factored (staged.factors q)) in
        let n = ap (λ (r : Reading). r.outcome ▷ f.outcome ▷ writing) staged.reading-is in
        record { outcome = e.outcome ∙ n; kept_same = e.kept_same ∙ ap (λ (o : Outcome). bytes_given o (certificate_for x)) n }

    pub makes : (o : Outcome) (z : ℕ) → z ≡ packed o → Puts (staged_outcome s A h (length b₀)) (held_certificate s h) o b₀ b → Makes text z b₀ b
    makes o z e p = record { number = e ∙ ap packed (p.outcome ∙ whole.outcome); buffer = p.buffer ∙ ap (filled (length b₀)) whole.kept_same }

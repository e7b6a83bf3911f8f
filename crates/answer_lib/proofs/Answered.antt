-- One law for each way out of answering, a refusal or the answer; and what comes of the stages, or of the reading, of a text is the text's.
use mathlib.Core.Path.{◌≡◌, refl, sym, ap, ◌∙◌, subst}
use mathlib.Core.List.{List, [], ◌∷◌}
use Prim.Native.Nat.{ℕ, ◌<◌}
use native.Mathlib.Omega.{arith}
use lib.ListN.{length}
use Rattle.lists.specs.Filled.{zeros}
use Rattle.lists.proofs.Filled.{length-zeros, filled_none}
use Rattle.refusals.specs.Refusals.{◌▷◌}
use Rattle.refusals.specs.Outcome.{Outcome}
use Rattle.refusals.specs.Outcome.{Passed, Refused}
use Rattle.sparse.specs.Matrix.{Compressed}
use Rattle.sparse.specs.Set.{Storage}
use Rattle.limits.specs.Limits.{starts_length, largest_entries, work_length}
use Rattle.text_plan.specs.Call.{ReadAnswer}
use Rattle.text_plan.specs.Held.{held_plan, plan_of}
use Rattle.text_plan.specs.Call.{Reading}
use Rattle.text_owners.specs.Call.{owners_length, text_call_of, GivesText}
use Rattle.factor_all.specs.Factorization.{Factorization}
use Rattle.call_answer.specs.Calls.{Given, answer_factors_of, answer_certificate_of, Answers}
use Rattle.call_answer.specs.Answer.{Answer}
use Rattle.call_owned.specs.Owned.{given_after}
use Rattle.stages.specs.Stages.{read_text, reading, factored_of, set_factored}
use Rattle.stages.specs.Lists.{Held}
use Rattle.stages.specs.Staged.{stages_outcome, Staged}
use Rattle.stages.specs.Results.{Stages}
use Rattle.stages.proofs.Holding.{held, answer-is}
use Rattle.answer_lib.specs.Answering.{own_answer, certified_answer, answer_read_of, answer_text_of}
use Rattle.answer_lib.specs.Held.{answer_held_of, answer_staged_of, certified_held_of}
use Rattle.answer_lib.specs.Needs.{StagedReady, CertifiedReady}

-- ---- a refusal, or what follows

module _ (o : Outcome) (g : Given) (x₀ x z₀ z w₀ w : List ℕ) where
  refuses : (k d : ℕ) → o ≡ Refused k d → x ≡ zeros (length x₀) → z ≡ zeros (length z₀) → w ≡ zeros (length w₀) → Answers (given_after o g) (Answer.Refused k d) x₀ x z₀ z w₀ w
  refuses k d e ex ez ew =
      subst (λ (t : Outcome). Answers (given_after t g) (Answer.Refused k d) x₀ x z₀ z w₀ w) (sym e)
      (record { answer = refl; number = refl; detail = refl; x-is = ex ∙ sym (filled_none (length x₀)); z-is = ez ∙ sym (filled_none (length z₀)); cleared = ew })

  passes : (r : Answer) → o ≡ Passed → Answers g r x₀ x z₀ z w₀ w → Answers (given_after o g) r x₀ x z₀ z w₀ w
  passes r e = subst (λ (t : Outcome). Answers (given_after t g) r x₀ x z₀ z w₀ w) (sym e)

pub after_both : (o o' : Outcome) (g : Given) → given_after (o ▷ o') g ≡ given_after o (given_after o' g)
after_both Passed o' g = refl
after_both (Refused k d) o' g = refl

-- what is given after a test counts only where it passes
pub after_same : (o : Outcome) (g g' : Given) → (o ≡ Passed → g ≡ g') → given_after o g ≡ given_after o g'
after_same Passed g g' f = f refl
after_same (Refused k d) g g' f = refl

-- ---- from the engine's own factors

module _ (s : Stages) (A : Compressed) (h : Storage) (y x₀ x z₀ z : List ℕ) where
  abbrev here : Given
  here = answer_held_of s A h y (length x₀) (length z₀) (length h.work)

  pub stages-refuse : (k e : ℕ) → Refused k e ≡ stages_outcome s → x ≡ zeros (length x₀) → z ≡ zeros (length z₀) → h.work ≡ zeros (length h.work)
      → Answers (answer_staged_of s A h y (length x₀) (length z₀) (length h.work)) (Answer.Refused k e) x₀ x z₀ z h.work h.work
  unfolding answer_staged_of
  stages-refuse k e q = refuses (stages_outcome s) here x₀ x z₀ z h.work h.work k e (sym q)

  pub stages-answer : stages_outcome s ≡ Passed → (r : Answer) (w : List ℕ) → Answers here r x₀ x z₀ z h.work w
      → Answers (answer_staged_of s A h y (length x₀) (length z₀) (length h.work)) r x₀ x z₀ z h.work w
  unfolding answer_staged_of
  stages-answer q r w = passes (stages_outcome s) here x₀ x z₀ z h.work w r q

module _ (text y : List ℕ) (s : Stages) (A : Compressed) (w₀ : List ℕ) (h : Storage) (staged : Staged text s A w₀ h) (wide : length w₀ ≡ work_length) where
  long : length h.work ≡ length w₀
  long = ap length staged.cleared ∙ length-zeros (length w₀)

  pub staged_ready : StagedReady s A h
  staged_ready = record { fits = λ q. (staged.factors q).fits; clear = staged.cleared ∙ ap zeros (sym long) }

  module _ (a b : ℕ) where
    abbrev q : ReadAnswer
    q = reading text

    abbrev f : Factorization
    f = factored_of q

    abbrev from-set : Given
    from-set = answer_factors_of q.result.p q.result.n q.result.m (plan_of q) (set_factored f) y a b work_length

    -- where the stages passed, the lists have the plan and the set
    from-lists : s.reading.outcome ≡ Passed → s.factored.outcome ≡ Passed → answer_held_of s A h y a b (length h.work) ≡ from-set
    from-lists done made t =
        let r = staged.reading-is t in
        answer_factors_of r.p r.n r.m ((staged.factors done).plan-is t) ((staged.factors done).set_is made t) y a b ((long ∙ wide) t)

    factored : s.reading.outcome ≡ Passed → given_after s.factored.outcome (answer_held_of s A h y a b (length h.work)) ≡ own_answer q y a b
    unfolding own_answer
    factored done =
        after_same s.factored.outcome (answer_held_of s A h y a b (length h.work)) from-set (from-lists done)
        ∙ ap (λ (o : Outcome). given_after o from-set) (staged.factors done).outcome-is

    own_same : answer_staged_of s A h y a b (length h.work) ≡ answer_text_of text [] y a b
    unfolding answer_staged_of answer_read_of answer_text_of
    own_same =
        after_both s.reading.outcome s.factored.outcome (answer_held_of s A h y a b (length h.work))
        ∙ after_same s.reading.outcome (given_after s.factored.outcome (answer_held_of s A h y a b (length h.work))) (own_answer q y a b) factored
        ∙ ap (λ (r : Reading). given_after r.outcome (own_answer q y a b)) staged.reading-is

  pub own-answers : (r : Answer) (x₀ x z₀ z w : List ℕ) → Answers (answer_staged_of s A h y (length x₀) (length z₀) (length h.work)) r x₀ x z₀ z h.work w
      → Answers (answer_text_of text [] y (length x₀) (length z₀)) r x₀ x z₀ z w₀ w
  own-answers r x₀ x z₀ z w g =
      let e = own_same (length x₀) (length z₀) in
      let c = subst (λ (t : Given). Answers t r x₀ x z₀ z h.work w) e g in
      record { answer = c.answer; number = c.number; detail = c.detail; x-is = c.x-is; z-is = c.z-is; cleared = c.cleared ∙ ap zeros long }

-- ---- from a certificate

module _ (r : Reading) (A : Compressed) (cert y x₀ x z₀ z w₀ w : List ℕ) where
  abbrev certified : Given
  certified = answer_certificate_of r.p r.n r.m (held_plan r A) cert y (length x₀) (length z₀) (length w₀)

  pub reading-refuses : (k d : ℕ) → r.outcome ≡ Refused k d → x ≡ zeros (length x₀) → z ≡ zeros (length z₀) → w ≡ zeros (length w₀)
      → Answers (certified_held_of r A cert y (length x₀) (length z₀) (length w₀)) (Answer.Refused k d) x₀ x z₀ z w₀ w
  unfolding certified_held_of
  reading-refuses = refuses r.outcome certified x₀ x z₀ z w₀ w

  pub reading-answers : (a : Answer) → r.outcome ≡ Passed → Answers certified a x₀ x z₀ z w₀ w
      → Answers (certified_held_of r A cert y (length x₀) (length z₀) (length w₀)) a x₀ x z₀ z w₀ w
  unfolding certified_held_of
  reading-answers = passes r.outcome certified x₀ x z₀ z w₀ w

module _ (text : List ℕ) (A : Compressed) (ow : List ℕ) (r : Reading) (read : GivesText (text_call_of text starts_length largest_entries largest_entries owners_length) r A.starts A.cols A.vals ow) where
  given : GivesText (read_text text) r A.starts A.cols A.vals ow
  unfolding read_text
  given = read

  pub plan-held : length A.starts ≡ starts_length → length A.cols ≡ largest_entries → length A.vals ≡ largest_entries → Held r A
  plan-held a b c = held text r A given.plan (record { starts-length = a; columns-length = b; values_length = c })

  certified-same : (cert y : List ℕ) (a b w : ℕ) → 0 < length cert → w ≡ work_length → certified_held_of r A cert y a b w ≡ answer_text_of text cert y a b
  unfolding certified_held_of certified_answer answer_read_of answer_text_of
  certified-same [] y a b w some wide = absurd (omega arith)
  certified-same (c ∷ cs) y a b w some wide =
      λ t. let q = answer-is text r A given.plan t in
      given_after q.result.outcome (answer_certificate_of q.result.p q.result.n q.result.m (plan_of q) (c ∷ cs) y a b (wide t))

  pub certified-answers : (cert y : List ℕ) (a : Answer) (x₀ x z₀ z w₀ w : List ℕ) → CertifiedReady cert w₀
      → Answers (certified_held_of r A cert y (length x₀) (length z₀) (length w₀)) a x₀ x z₀ z w₀ w → Answers (answer_text_of text cert y (length x₀) (length z₀)) a x₀ x z₀ z w₀ w
  certified-answers cert y a x₀ x z₀ z w₀ w d =
      subst (λ (g : Given). Answers g a x₀ x z₀ z w₀ w) (certified-same cert y (length x₀) (length z₀) (length w₀) d.bytes d.work-length)

-- ---- which of the two

no_bytes : (cert : List ℕ) → length cert ≡ 0 → [] ≡ cert
no_bytes [] e = refl
no_bytes (c ∷ cs) e = absurd (omega arith)

pub without-bytes : (text cert y : List ℕ) (r : Answer) (x₀ x z₀ z w₀ w : List ℕ) → length cert ≡ 0 → Answers (answer_text_of text [] y (length x₀) (length z₀)) r x₀ x z₀ z w₀ w
    → Answers (answer_text_of text cert y (length x₀) (length z₀)) r x₀ x z₀ z w₀ w
without-bytes text cert y r x₀ x z₀ z w₀ w e = subst (λ (l : List ℕ). Answers (answer_text_of text l y (length x₀) (length z₀)) r x₀ x z₀ z w₀ w) (no_bytes cert e)

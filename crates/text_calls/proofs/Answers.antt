-- What the call for C that answers a question says, with what it returned and left: q is the number, v the verdict, x and z are the lists as left.
--   answers-text       the answer that code makes one number and one byte of is what the call promises
-- After a text that states a plan, what is given is what a call on the stored plan gives:
--   as-stored          without a certificate, where the plan's factors fit: the call with these factors
--   as_bytes           with one: the call with its bytes
-- Of the call:
--   answered-exactly   0 exactly if the text states a plan, its factors fit or the certificate passes, and y, x and z are the plan's (`TextAskable`)
--   answered-right     0: the verdict is 1 exactly if some x has x A = y, else 0, and x and z are as described (`VerdictRight`)
--   answered-cleared   else x and z are all zero, and the verdict is 0
--   answered-refused   a text that states no plan is refused as reading refuses it
--   answered-storage   without a certificate, where the plan's factors do not fit: 7 at the first row in processing order that overflows
--   answered-by        the numbers of the table by which it refuses
use mathlib.Core.Path.{◌≡◌, refl, sym, ap, subst, ◌∙◌}
use mathlib.Core.Logic.{◌↔◌}
use mathlib.Core.List.{List, [], ◌∷◌, ◌++◌}
use mathlib.Core.Option.{Option, none, some}
use Prim.Native.Nat.{ℕ, ◌+◌, ◌*◌}
use native.Mathlib.Omega.{arith}
use lib.Dec.{leb, ltb}
use lib.ListN.{length, get_or}
use Rattle.lists.specs.Tests.{among, first}
use Rattle.lists.specs.Filled.{zeros, filled}
use Rattle.lists.proofs.Filled.{length-zeros, filled_none}
use Rattle.refusals.specs.Table.{text_faults, set_faults, storage_too_short, wrong_length, question_too_large}
use Rattle.refusals.specs.Refusals.{◌▷◌, unless, number_of, detail_of}
use Rattle.refusals.specs.Outcome.{Outcome}
use Rattle.refusals.specs.Outcome.{Passed, Refused}
use Rattle.refusals.proofs.Refusals.{RefusedBy, both-passed, refused-unless, refused-then, zero-passed}
use Rattle.algebra.specs.Matrix.{vector}
use Rattle.sparse.specs.Matrix.{Compressed}
use Rattle.certificate.specs.Reading.{set_of_certificate}
use Rattle.row_space.specs.Question.{question_outcome}
use Rattle.row_space.specs.Solve.{Solved, solve}
use Rattle.row_space.specs.declared.Verdict.{Verdict}
use Rattle.limits.specs.Limits.{largest_entries, work_length}
use Rattle.text_plan.specs.Held.{plan_of}
use Rattle.text_owners.specs.Stating.{StatesText}
use Rattle.factor_all.specs.Factorization.{Factorization, unless_over}
use Rattle.call_check.specs.Calls.{check_factors_of, check_certificate_of}
use Rattle.call_check.specs.Passing.{StoredPasses, CertificatePasses}
use Rattle.call_check.proofs.Theorems.{factors-exactly, rest-numbers, after-plan}
use Rattle.call_answer.specs.Calls.{answer_number, answer_detail, answer_of, question_lengths, question_after, Given, given, answer_factors_of, answer_certificate_of, Answers}
use Rattle.call_answer.specs.Meaning.{Askable, AnswersRight}
use Rattle.call_answer.specs.Answer.{Answer}
use Rattle.call_answer.proofs.Ways.{answered-number, answered-detail}
use Rattle.call_answer.proofs.Theorems.{stored-answered, stored-right, stored-solved, bytes-answered, bytes-right, bytes-solved}
use Rattle.call_owned.specs.Owned.{given_after}
use Rattle.stages.specs.Stages.{reading, factored_of, set_factored}
use Rattle.stages.specs.Meaning.{factors_of, FitsAll, OverflowsAt}
use Rattle.stages.proofs.Outcomes.{not-passed}
use Rattle.stages.proofs.Passing.{factors-pass}
use Rattle.stages.proofs.ReadText.{reading-good, outcome-passed, reading-numbers, first_row, whole_set, fits_all, row-overflows, factored-is}
use Rattle.answer_lib.specs.Answering.{own_answer, certified_answer, answer_read_of, answer_text_of}
use Rattle.text_calls.specs.Calls.{packed, verdict_byte, AnswersText}
use Rattle.text_calls.specs.Meaning.{TextAskable, set_used, VerdictRight, PackedFrom}
use Rattle.text_calls.proofs.Numbers.{packed_zero, packed-from}

-- ---- from the answer in code

pub answers-text : (text cert y : List ℕ) (r : Answer) (x₀ x z₀ z w₀ w : List ℕ) (q v : ℕ) → Answers (answer_text_of text cert y (length x₀) (length z₀)) r x₀ x z₀ z w₀ w
    → q ≡ answer_number r + 256 * answer_detail r → v ≡ verdict_byte r → AnswersText text cert y q x₀ x z₀ z v
answers-text text cert y r x₀ x z₀ z w₀ w q v c e f =
    record { number = e ∙ (λ t. c.number t + 256 * c.detail t); x-is = c.x-is; z-is = c.z-is; verdict = f ∙ ap verdict_byte c.answer }

-- ---- what is given: its answer has the number and the detail of its outcome, and where that is a refusal there are no lists

record Proper (g : Given) : Type 0 where
  number : answer_number g.answer ≡ number_of g.outcome
  detail : answer_detail g.answer ≡ detail_of g.outcome
  cleared : ¬ (g.outcome ≡ Passed) → (g.x ≡ []) × (g.z ≡ []) × (verdict_byte g.answer ≡ 0)

given-proper : (o : Outcome) (a : Solved) → Proper (given o a)
given-proper Passed a = record { number = answered-number a.verdict; detail = answered-detail a.verdict; cleared = λ f. absurd (f refl) }
given-proper (Refused k d) a = record { number = refl; detail = refl; cleared = λ f. (refl, refl, refl) }

after-proper : (o : Outcome) (g : Given) → Proper g → Proper (given_after o g)
after-proper Passed g h = h
after-proper (Refused k d) g h = record { number = refl; detail = refl; cleared = λ f. (refl, refl, refl) }

text-proper : (text cert y : List ℕ) (a b : ℕ) → Proper (answer_text_of text cert y a b)
unfolding answer_text_of answer_read_of own_answer certified_answer answer_factors_of answer_certificate_of
text-proper text [] y a b =
    let q = (reading text).result in
    let f = factored_of (reading text) in
    let s = set_factored f in
    let check = check_factors_of q.p q.n q.m (plan_of (reading text)) s work_length in
    after-proper q.outcome (own_answer (reading text) y a b)
    (after-proper f.outcome (answer_factors_of q.p q.n q.m (plan_of (reading text)) s y a b work_length)
    (given-proper (question_after check q.p q.n q.m y a b) (solve q.p q.n q.m s (vector y))))
text-proper text (c ∷ cs) y a b =
    let q = (reading text).result in
    let s = set_of_certificate q.n q.m (c ∷ cs) in
    let check = check_certificate_of q.p q.n q.m (plan_of (reading text)) (c ∷ cs) work_length in
    after-proper q.outcome (certified_answer (reading text) (c ∷ cs) y a b)
    (given-proper (question_after check q.p q.n q.m y a b) (solve q.p q.n q.m s (vector y)))

-- ---- verdicts

open-one : (u : Verdict) → verdict_byte (answer_of u) ≡ 1 → answer_of u ≡ Answer.Open
open-one Verdict.Open e = refl
open-one Verdict.Closed e = absurd (omega arith)

closed_none : (u : Verdict) → verdict_byte (answer_of u) ≡ 0 → answer_of u ≡ Answer.Closed
closed_none Verdict.Open e = absurd (omega arith)
closed_none Verdict.Closed e = refl

-- ---- a certificate that has bytes

some_bytes : (cert : List ℕ) (c : ℕ) (cs : List ℕ) → cert ≡ c ∷ cs → ¬ (cert ≡ [])
some_bytes cert c cs e f = omega (arith, ap length e, ap length f)

-- ---- the numbers of a question about a set that was checked

module _ (p n m : ℕ) (y : List ℕ) where
  values-numbers : RefusedBy (question_too_large ∷ []) (question_outcome p y)
  unfolding question_outcome among
  values-numbers = let f = first (length y) (λ j. ltb (get_or y j 0) p) in refused-unless (15 ∷ []) (leb (length y) f) 15 f refl

  question-numbers : (check : Outcome) (a b : ℕ) → RefusedBy set_faults check → RefusedBy ((wrong_length ∷ []) ++ (set_faults ++ (question_too_large ∷ []))) (question_after check p n m y a b)
  unfolding question_after among
  question-numbers check a b h =
      refused-then (9 ∷ []) (set_faults ++ (15 ∷ [])) (unless (question_lengths n m y a b) 9 0) (check ▷ question_outcome p y)
      (refused-unless (9 ∷ []) (question_lengths n m y a b) 9 0 refl) (refused-then set_faults (15 ∷ []) check (question_outcome p y) h values-numbers)

given-numbers : (ks : List ℕ) (o : Outcome) (a : Solved) → RefusedBy ks o → RefusedBy ks (given o a).outcome
given-numbers ks Passed a h = tt
given-numbers ks (Refused k d) a h = h

after-outcome : (o : Outcome) (g : Given) → (given_after o g).outcome ≡ (o ▷ g.outcome)
after-outcome Passed g = refl
after-outcome (Refused k d) g = refl

-- the numbers by which what follows reading refuses
abbrev later : List ℕ
later = (storage_too_short ∷ wrong_length ∷ []) ++ (set_faults ++ (question_too_large ∷ []))

-- ---- after a text that states a plan

module _ (text : List ℕ) where
  abbrev p : ℕ
  p = (reading text).result.p

  abbrev n : ℕ
  n = (reading text).result.n

  abbrev m : ℕ
  m = (reading text).result.m

  abbrev A : Compressed
  A = plan_of (reading text)

module _ (text y : List ℕ) where
  -- what follows factoring
  abbrev after-factoring : (a b : ℕ) → Factorization → Given
  after-factoring a b f = given_after f.outcome (answer_factors_of (p text) (n text) (m text) (A text) (set_factored f) y a b work_length)

  module _ (states : StatesText largest_entries text) where
    own_is : (a b : ℕ) → answer_text_of text [] y a b ≡ after-factoring a b (unless_over (first_row text) (whole_set text))
    unfolding answer_text_of answer_read_of own_answer
    own_is a b = ap (λ (o : Outcome). given_after o (own_answer (reading text) y a b)) ((outcome-passed text).1 states) ∙ ap (after-factoring a b) (factored-is text states)

    pub as-stored : FitsAll (reading text) → (a b : ℕ) → answer_text_of text [] y a b ≡ answer_factors_of (p text) (n text) (m text) (A text) (factors_of (reading text)) y a b work_length
    as-stored fits a b = own_is a b ∙ ap (λ (o : Option ℕ). after-factoring a b (unless_over o (whole_set text))) ((fits_all text).1 fits)

    pub as_bytes : (cert : List ℕ) → ¬ (cert ≡ []) → (a b : ℕ) → answer_text_of text cert y a b ≡ answer_certificate_of (p text) (n text) (m text) (A text) cert y a b work_length
    unfolding answer_text_of answer_read_of certified_answer
    as_bytes [] f a b = absurd (f refl)
    as_bytes (c ∷ cs) f a b = ap (λ (o : Outcome). given_after o (certified_answer (reading text) (c ∷ cs) y a b)) ((outcome-passed text).1 states)

    -- ---- its numbers

    stored-numbers : (a b : ℕ) → RefusedBy later (answer_factors_of (p text) (n text) (m text) (A text) (factors_of (reading text)) y a b work_length).outcome
    unfolding answer_factors_of
    stored-numbers a b =
        let check = check_factors_of (p text) (n text) (m text) (A text) (factors_of (reading text)) work_length in
        let passed : check ≡ Passed = (factors-exactly (p text) (n text) (m text) (A text) (factors_of (reading text)) work_length).1 (factors-pass (p text) (n text) (m text) (A text) (reading-good text states)) in
        given-numbers later (question_after check (p text) (n text) (m text) y a b) _
        (refused-then (7 ∷ []) ((9 ∷ []) ++ (set_faults ++ (15 ∷ []))) Passed (question_after check (p text) (n text) (m text) y a b) tt (question-numbers (p text) (n text) (m text) y check a b (subst (RefusedBy set_faults) (sym passed) tt)))

    bytes-numbers : (cert : List ℕ) (a b : ℕ) → RefusedBy later (answer_certificate_of (p text) (n text) (m text) (A text) cert y a b work_length).outcome
    unfolding answer_certificate_of
    bytes-numbers cert a b =
        let check = check_certificate_of (p text) (n text) (m text) (A text) cert work_length in
        let set = subst (RefusedBy set_faults) (sym (after-plan (p text) (n text) (m text) (A text) cert work_length (reading-good text states) refl)) (rest-numbers (p text) (n text) (m text) (A text) cert work_length) in
        given-numbers later (question_after check (p text) (n text) (m text) y a b) _
        (refused-then (7 ∷ []) ((9 ∷ []) ++ (set_faults ++ (15 ∷ []))) Passed (question_after check (p text) (n text) (m text) y a b) tt (question-numbers (p text) (n text) (m text) y check a b set))

    stated-numbers : (cert : List ℕ) (a b : ℕ) → RefusedBy later (answer_text_of text cert y a b).outcome
    unfolding among
    stated-numbers [] a b = go (first_row text) refl
      where
        go : (o : Option ℕ) → first_row text ≡ o → RefusedBy later (answer_text_of text [] y a b).outcome
        go none e = subst (λ (g : Given). RefusedBy later g.outcome) (sym (as-stored ((fits_all text).0 e) a b)) (stored-numbers a b)
        go (some i) e = subst (λ (g : Given). RefusedBy later g.outcome) (sym (own_is a b ∙ ap (λ (o : Option ℕ). after-factoring a b (unless_over o (whole_set text))) e)) refl
    stated-numbers (c ∷ cs) a b =
        subst (λ (g : Given). RefusedBy later g.outcome) (sym (as_bytes (c ∷ cs) (some_bytes (c ∷ cs) c cs refl) a b)) (bytes-numbers (c ∷ cs) a b)

  -- ---- reading first

  reads_first : (cert : List ℕ) (a b : ℕ) → (g : Given) × (answer_text_of text cert y a b ≡ given_after (reading text).result.outcome g)
  unfolding answer_text_of answer_read_of
  reads_first [] a b = (own_answer (reading text) y a b, refl)
  reads_first (c ∷ cs) a b = (certified_answer (reading text) (c ∷ cs) y a b, refl)

  module _ (cert : List ℕ) (a b : ℕ) where
    abbrev outcome : Outcome
    outcome = (answer_text_of text cert y a b).outcome

    outcome-is : outcome ≡ ((reading text).result.outcome ▷ (reads_first cert a b).0.outcome)
    outcome-is = ap (λ (g : Given). g.outcome) (reads_first cert a b).1 ∙ after-outcome (reading text).result.outcome (reads_first cert a b).0

    stated : outcome ≡ Passed → StatesText largest_entries text
    stated e = (outcome-passed text).0 (both-passed (reading text).result.outcome (reads_first cert a b).0.outcome (sym outcome-is ∙ e)).0

    unread : (k d : ℕ) → (reading text).result.outcome ≡ Refused k d → outcome ≡ Refused k d
    unread k d e = outcome-is ∙ ap (λ (o : Outcome). o ▷ (reads_first cert a b).0.outcome) e

    numbers : RefusedBy (text_faults ++ later) outcome
    numbers = go (reading text).result.outcome refl (reading-numbers text)
      where
        go : (o : Outcome) → (reading text).result.outcome ≡ o → RefusedBy text_faults o → RefusedBy (text_faults ++ later) outcome
        go Passed e h = refused-then text_faults later Passed outcome tt (stated-numbers ((outcome-passed text).0 e) cert a b)
        go (Refused k d) e h = subst (RefusedBy (text_faults ++ later)) (sym (unread k d e)) (refused-then text_faults later (Refused k d) Passed h tt)

-- ---- the call

module _ (text cert y : List ℕ) (q : ℕ) (x₀ x z₀ z : List ℕ) (v : ℕ) (call : AnswersText text cert y q x₀ x z₀ z v) where
  abbrev g : Given
  g = answer_text_of text cert y (length x₀) (length z₀)

  abbrev r : Answer
  r = g.answer

  -- a working row, which the call has of its own
  abbrev w₀ : List ℕ
  w₀ = zeros work_length

  abbrev w : List ℕ
  w = zeros (length w₀)

  whole : Answers g r x₀ x z₀ z w₀ w
  whole =
      let h = text-proper text cert y (length x₀) (length z₀) in
      record { answer = refl; number = h.number; detail = h.detail; x-is = call.x-is; z-is = call.z-is; cleared = refl }

  pub answered-by : PackedFrom (text_faults ++ ((storage_too_short ∷ wrong_length ∷ []) ++ (set_faults ++ (question_too_large ∷ [])))) q
  answered-by = subst (PackedFrom (text_faults ++ later)) (sym call.number) (packed-from (text_faults ++ later) g.outcome (numbers text y cert (length x₀) (length z₀)))

  passed-exactly : (q ≡ 0) ↔ (g.outcome ≡ Passed)
  unfolding among
  passed-exactly =
      let (there, back) = packed_zero (text_faults ++ later) g.outcome (numbers text y cert (length x₀) (length z₀)) refl in
      ((λ e. there (sym call.number ∙ e)), λ e. call.number ∙ back e)

  -- 0 is the number of the answer
  done : q ≡ 0 → answer_number r ≡ 0
  done e = whole.number ∙ ap number_of (passed-exactly.0 e)

  undone : answer_number r ≡ 0 → q ≡ 0
  unfolding among
  undone e = passed-exactly.1 ((zero-passed (text_faults ++ later) g.outcome (numbers text y cert (length x₀) (length z₀)) refl).0 (sym whole.number ∙ e))

  pub answered-cleared : ¬ (q ≡ 0) → (x ≡ zeros (length x₀)) × (z ≡ zeros (length z₀)) × (v ≡ 0)
  answered-cleared f =
      let (none-x, none-z, none-v) = (text-proper text cert y (length x₀) (length z₀)).cleared (λ e. f (passed-exactly.1 e)) in (
        call.x-is ∙ ap (filled (length x₀)) none-x ∙ filled_none (length x₀),
        call.z-is ∙ ap (filled (length z₀)) none-z ∙ filled_none (length z₀),
        call.verdict ∙ none-v,
      )

  pub answered-refused : ¬ StatesText largest_entries text → q ≡ packed (reading text).result.outcome
  answered-refused f = go (reading text).result.outcome refl
    where
      go : (o : Outcome) → (reading text).result.outcome ≡ o → q ≡ packed o
      go Passed e = absurd (f ((outcome-passed text).0 e))
      go (Refused k d) e = call.number ∙ ap packed (unread text y cert (length x₀) (length z₀) k d e)

  -- ---- after a text that states a plan

  module _ (states : StatesText largest_entries text) where
    own-call : cert ≡ [] → FitsAll (reading text) → Answers (answer_factors_of (p text) (n text) (m text) (A text) (factors_of (reading text)) y (length x₀) (length z₀) (length w₀)) r x₀ x z₀ z w₀ w
    own-call e fits =
        subst (λ (t : Given). Answers t r x₀ x z₀ z w₀ w)
        (ap (λ (l : List ℕ). answer_text_of text l y (length x₀) (length z₀)) e
        ∙ as-stored text y states fits (length x₀) (length z₀)
        ∙ ap (answer_factors_of (p text) (n text) (m text) (A text) (factors_of (reading text)) y (length x₀) (length z₀)) (sym (length-zeros work_length))) whole

    bytes-call : ¬ (cert ≡ []) → Answers (answer_certificate_of (p text) (n text) (m text) (A text) cert y (length x₀) (length z₀) (length w₀)) r x₀ x z₀ z w₀ w
    bytes-call f =
        subst (λ (t : Given). Answers t r x₀ x z₀ z w₀ w)
        (as_bytes text y states cert f (length x₀) (length z₀)
        ∙ ap (answer_certificate_of (p text) (n text) (m text) (A text) cert y (length x₀) (length z₀)) (sym (length-zeros work_length))) whole

    row_is : cert ≡ [] → (i : ℕ) → first_row text ≡ some i → g.outcome ≡ Refused storage_too_short i
    row_is e i at =
        ap (λ (l : List ℕ). (answer_text_of text l y (length x₀) (length z₀)).outcome) e
        ∙ ap (λ (t : Given). t.outcome) (own_is text y states (length x₀) (length z₀) ∙ ap (λ (o : Option ℕ). after-factoring text y (length x₀) (length z₀) (unless_over o (whole_set text))) at)

    fitting : cert ≡ [] → g.outcome ≡ Passed → FitsAll (reading text)
    fitting e passed = go (first_row text) refl
      where
        go : (o : Option ℕ) → first_row text ≡ o → FitsAll (reading text)
        go none at = (fits_all text).0 at
        go (some i) at = absurd (not-passed (row_is e i at) passed)

    pub answered-storage : cert ≡ [] → ¬ FitsAll (reading text) → (i : ℕ) × (q ≡ storage_too_short + 256 * i) × OverflowsAt (reading text) i
    answered-storage e f = go (first_row text) refl
      where
        go : (o : Option ℕ) → first_row text ≡ o → (i : ℕ) × (q ≡ 7 + 256 * i) × OverflowsAt (reading text) i
        go none at = absurd (f ((fits_all text).0 at))
        go (some i) at = (i, call.number ∙ ap packed (row_is e i at), row-overflows text i at)

    own-passes : StoredPasses (p text) (n text) (m text) (A text) (factors_of (reading text)) (length w₀)
    own-passes = let h = factors-pass (p text) (n text) (m text) (A text) (reading-good text states) in record { plan = h.plan; sized = h.sized; work = length-zeros work_length; passes = h.passes }

    own-exactly : cert ≡ [] → FitsAll (reading text) → (answer_number r ≡ 0) ↔ (StoredPasses (p text) (n text) (m text) (A text) (factors_of (reading text)) (length w₀) × Askable (p text) (n text) (m text) y (length x₀) (length z₀))
    own-exactly e fits = stored-answered (p text) (n text) (m text) (A text) (factors_of (reading text)) y r x₀ x z₀ z w₀ w (own-call e fits)

    bytes-exactly : ¬ (cert ≡ []) → (answer_number r ≡ 0) ↔ (CertificatePasses (p text) (n text) (m text) (A text) cert (length w₀) × Askable (p text) (n text) (m text) y (length x₀) (length z₀))
    bytes-exactly f = bytes-answered (p text) (n text) (m text) (A text) cert y r x₀ x z₀ z w₀ w (bytes-call f)

  -- ---- 0 exactly if ..

  there : q ≡ 0 → TextAskable text cert y (length x₀) (length z₀)
  there e =
      record {
        states = states;
        own = λ at. fitting states at (passed-exactly.0 e);
        certified = λ f. let h = ((bytes-exactly states f).0 (done e)).0 in record { states = states; layout = h.layout; passes = h.passes };
        askable = go cert refl;
      }
    where
      states : StatesText largest_entries text
      states = stated text y cert (length x₀) (length z₀) (passed-exactly.0 e)

      go : (c : List ℕ) → cert ≡ c → Askable (p text) (n text) (m text) y (length x₀) (length z₀)
      go [] at = ((own-exactly states at (fitting states at (passed-exactly.0 e))).0 (done e)).1
      go (c ∷ cs) at = ((bytes-exactly states (some_bytes cert c cs at)).0 (done e)).1

  back : TextAskable text cert y (length x₀) (length z₀) → q ≡ 0
  back h = undone (go cert refl)
    where
      go : (c : List ℕ) → cert ≡ c → answer_number r ≡ 0
      go [] at = (own-exactly h.states at (h.own at)).1 (own-passes h.states, h.askable)
      go (c ∷ cs) at =
          let f = some_bytes cert c cs at in
          let k = h.certified f in
          (bytes-exactly h.states f).1 (record { plan = reading-good text h.states; work = length-zeros work_length; layout = k.layout; passes = k.passes }, h.askable)

  pub answered-exactly : (q ≡ 0) ↔ TextAskable text cert y (length x₀) (length z₀)
  answered-exactly = (there, back)

  -- ---- the answer

  module _ (zero : q ≡ 0) where
    asked : TextAskable text cert y (length x₀) (length z₀)
    asked = there zero

    right : AnswersRight (p text) (n text) (m text) (A text) (set_used text cert) y r x z
    right = go cert refl
      where
        go : (c : List ℕ) → cert ≡ c → AnswersRight (p text) (n text) (m text) (A text) (set_used text c) y r x z
        go [] at = stored-right (p text) (n text) (m text) (A text) (factors_of (reading text)) y r x₀ x z₀ z w₀ w (own-call asked.states at (asked.own at)) (done zero)
        go (c ∷ cs) at =
            subst (λ (l : List ℕ). AnswersRight (p text) (n text) (m text) (A text) (set_of_certificate (n text) (m text) l) y r x z) at
            (bytes-right (p text) (n text) (m text) (A text) cert y r x₀ x z₀ z w₀ w (bytes-call asked.states (some_bytes cert c cs at)) (done zero))

    -- it is open or closed
    decided : (u : Verdict) × (r ≡ answer_of u)
    decided = go cert refl
      where
        go : (c : List ℕ) → cert ≡ c → (u : Verdict) × (r ≡ answer_of u)
        go [] at = ((solve (p text) (n text) (m text) (factors_of (reading text)) (vector y)).verdict, (stored-solved (p text) (n text) (m text) (A text) (factors_of (reading text)) y r x₀ x z₀ z w₀ w (own-call asked.states at (asked.own at)) (done zero)).answer)
        go (c ∷ cs) at = ((solve (p text) (n text) (m text) (set_of_certificate (n text) (m text) cert) (vector y)).verdict, (bytes-solved (p text) (n text) (m text) (A text) cert y r x₀ x z₀ z w₀ w (bytes-call asked.states (some_bytes cert c cs at)) (done zero)).answer)

    verdict-is : v ≡ verdict_byte (answer_of decided.0)
    verdict-is = call.verdict ∙ ap verdict_byte decided.1

    opened : v ≡ 1 → r ≡ Answer.Open
    opened e = decided.1 ∙ open-one decided.0 (sym verdict-is ∙ e)

    closed : v ≡ 0 → r ≡ Answer.Closed
    closed e = decided.1 ∙ closed_none decided.0 (sym verdict-is ∙ e)

    pub answered-right : VerdictRight (p text) (n text) (m text) (A text) (set_used text cert) y v x z
    answered-right =
        record {
          open-exactly = ((λ e. right.open-exactly.0 (opened e)), λ h. call.verdict ∙ ap verdict_byte (right.open-exactly.1 h));
          closed-exactly = ((λ e. right.closed-exactly.0 (closed e)), λ h. call.verdict ∙ ap verdict_byte (right.closed-exactly.1 h));
          open-left = λ e. right.open-left (opened e);
          closed-left = λ e. right.closed-left (closed e);
          one_value = λ e. right.one_value (opened e);
          every_value = λ e. right.every_value (closed e);
        }

-- What a call with a question says, with what it returned and left (`Answers`), whatever set it was given, whoever made it.
--   stored-answered, bytes-answered    a question is answered exactly if the set passes the check, y holds m residues, and x and z have their lengths
--   stored-after, bytes_after          so every question of m residues is answered where a call that checks the set has returned 0
--   stored-right, bytes-right          and then the answer is right (`AnswersRight`): open exactly if some x has x A = y, with the x or z described; one value
--                                      where it is open, every value where it is closed
--   stored-solved, bytes-solved        what was returned and left is what `solve` gives, from a set that passed (`SolvedFrom`)
--   stored-judged, bytes-judged        after the tests of lengths and plan, none of 10 to 14 is returned exactly if shape and product are right
--   stored-by, bytes-by                the numbers of the table by which it refuses
--   stored-cleared, bytes-cleared      a refusal leaves x and z all zero
--   answers_agree                      two answers to one question, from whatever sets, have one verdict
use mathlib.Core.Path.{◌≡◌, refl, sym, ap, subst, ◌∙◌}
use mathlib.Core.Logic.{◌↔◌}
use mathlib.Core.Bool.{Bool, true, false, ◌&&◌}
use mathlib.Core.List.{List, [], ◌∷◌, ◌++◌}
use Prim.Native.Nat.{ℕ, ◌<◌}
use native.Mathlib.Omega.{arith}
use lib.Dec.{eqb, leb, ltb}
use lib.ListN.{length, get_or}
use borrow.Author.Tests.{eq-eqb, le-leb, lt-ltb}
use Rattle.lists.specs.Tests.{among, first}
use Rattle.refusals.specs.Table.{plan_faults, set_faults, wrong_length, question_too_large}
use Rattle.lists.specs.Filled.{zeros, filled}
use Rattle.refusals.specs.Refusals.{◌▷◌, unless, number_of, NumberFrom}
use Rattle.refusals.specs.Outcome.{Outcome}
use Rattle.lists.proofs.Bools.{and_both}
use Rattle.lists.proofs.Tests.{first-all}
use Rattle.lists.proofs.Filled.{length-zeros, filled_none, filled-whole}
use Rattle.refusals.proofs.Refusals.{RefusedBy, number-from, after-passed, unless_holds, refused-unless, refused-then, zero-passed}
use Rattle.algebra.specs.Matrix.{vector}
use Rattle.algebra.specs.RowSpace.{InRowSpace}
use Rattle.algebra.specs.Answer.{OpenAnswer, ClosedAnswer}
use Rattle.algebra.specs.Congruence.{◌≈⟨◌⟩◌}
use Rattle.algebra.specs.Sum.{dot}
use Rattle.algebra.specs.Prime.{Prime}
use Rattle.sparse.specs.Row.{Below}
use Rattle.sparse.specs.Matrix.{Compressed, matrix}
use Rattle.sparse.specs.Set.{Set}
use Rattle.pluq.specs.Judge.{judge, Passes}
use Rattle.row_space.specs.Question.{question_outcome}
use Rattle.row_space.specs.Solve.{Solved, solve, remainder, lowest_of}
use Rattle.row_space.specs.declared.Verdict.{Verdict}
use Rattle.row_space.proofs.Solutions.{solve-lengths}
use Rattle.row_space.proofs.Theorems as sets
use Rattle.certificate.specs.Layout.{Sized}
use Rattle.certificate.specs.Reading.{header_ok, set_of_certificate}
use Rattle.limits.specs.Limits.{work_length}
use Rattle.call_plan.specs.Accepted.{GoodPlan}
use Rattle.call_check.specs.Calls.{check_factors_of, check_certificate_of, Checks}
use Rattle.call_check.specs.Passing.{StoredPasses, CertificatePasses}
use Rattle.call_check.proofs.Theorems.{factors-none, certificate-none, stored-passes, bytes-pass}
use Rattle.call_answer.specs.Calls.{answer_number, answer_of, question_lengths, question_after, given, answer_factors_of, answer_certificate_of, Answers}
use Rattle.call_answer.specs.Meaning.{Askable, LeftOpen, LeftClosed, AnswersRight, AnswerOf, from_stored, from_bytes}
use Rattle.call_answer.specs.Answer.{Answer}
use Rattle.call_check.proofs.Checked.{Checked, SetTest, stored-test, bytes-test}
use Rattle.call_answer.proofs.Ways.{asked-parts}

-- ---- verdicts and answers

open-verdict : (v : Verdict) → answer_of v ≡ Answer.Open → v ≡ Verdict.Open
open-verdict Verdict.Open e = refl
open-verdict Verdict.Closed e = absurd (let z : ◌≡◌ {A = ℕ} 0 1 = cc in omega arith)

closed-verdict : (v : Verdict) → answer_of v ≡ Answer.Closed → v ≡ Verdict.Closed
closed-verdict Verdict.Open e = absurd (let z : ◌≡◌ {A = ℕ} 0 1 = cc in omega arith)
closed-verdict Verdict.Closed e = refl

given-outcome : (o : Outcome) (a : Solved) → (given o a).outcome ≡ o
given-outcome Outcome.Passed a = refl
given-outcome (Outcome.Refused k d) a = refl

-- ---- the tests of a question

question-holds : (p : ℕ) (y : List ℕ) → Below p y → question_outcome p y ≡ Outcome.Passed
unfolding question_outcome
question-holds p y h =
    let f = first (length y) (λ j. ltb (get_or y j 0) p) in
    let all : f ≡ length y = first-all (length y) (λ j. ltb (get_or y j 0) p) (λ i g. lt-ltb (get_or y i 0) p (h i g)) in
    ap (λ (b : Bool). unless b 15 f) (le-leb (length y) f (omega (arith, all)))

question-numbers : (p : ℕ) (y : List ℕ) → RefusedBy (question_too_large ∷ []) (question_outcome p y)
unfolding question_outcome among
question-numbers p y = let f = first (length y) (λ j. ltb (get_or y j 0) p) in refused-unless (15 ∷ []) (leb (length y) f) 15 f refl

question-none : (p : ℕ) (y : List ℕ) → among (number_of (question_outcome p y)) set_faults ≡ false
unfolding question_outcome among
question-none p y = let f = first (length y) (λ j. ltb (get_or y j 0) p) in go (leb (length y) f) f
  where
    go : (b : Bool) (f : ℕ) → among (number_of (unless b 15 f)) set_faults ≡ false
    go true f = refl
    go false f = refl

askable-lengths : (p n m : ℕ) (y : List ℕ) (a b : ℕ) → Askable p n m y a b → question_lengths n m y a b ≡ true
unfolding question_lengths
askable-lengths p n m y a b h = and_both (eqb (length y) m) (eqb a n && eqb b m) (eq-eqb (length y) m h.values) (and_both (eqb a n) (eqb b m) (eq-eqb a n h.rows) (eq-eqb b m h.columns))

-- the numbers by which a call with a question refuses
abbrev faults : List ℕ
faults = (wrong_length ∷ []) ++ ((plan_faults ++ set_faults) ++ (question_too_large ∷ []))

-- ---- what `solve` gives, as it was returned and left

-- the set s passed, y holds m residues, and the answer r with the lists x and z is that of `solve`
pub record SolvedFrom (p n m : ℕ) (A : Compressed) (s : Set) (y : List ℕ) (r : Answer) (x z : List ℕ) : Type 0 where
  pub prime : Prime p
  pub sized : Sized n m s
  pub judged : judge p n m A s ≡ Outcome.Passed
  pub residues : (j : ℕ) → j < m → vector y j < p
  pub answer : r ≡ answer_of (solve p n m s (vector y)).verdict
  pub opened : r ≡ Answer.Open → (solve p n m s (vector y)).verdict ≡ Verdict.Open
  pub closed : r ≡ Answer.Closed → (solve p n m s (vector y)).verdict ≡ Verdict.Closed
  pub x-is : x ≡ (solve p n m s (vector y)).x
  pub z-is : z ≡ (solve p n m s (vector y)).z

-- ---- for any check of a set, which passes exactly X

module _ (X : Type 0) (p n m : ℕ) (A : Compressed) (s : Set) (y : List ℕ) (r : Answer) (x₀ x z₀ z w₀ w : List ℕ) (t : SetTest p n m A s (length w₀) X)
    (call : Answers (given (question_after t.check p n m y (length x₀) (length z₀)) (solve p n m s (vector y))) r x₀ x z₀ z w₀ w) where
  abbrev solved : Solved
  solved = solve p n m s (vector y)

  abbrev asked : Outcome
  asked = question_after t.check p n m y (length x₀) (length z₀)

  asked-numbers : RefusedBy faults asked
  unfolding question_after among
  asked-numbers =
      refused-then (9 ∷ []) ((plan_faults ++ set_faults) ++ (15 ∷ [])) (unless (question_lengths n m y (length x₀) (length z₀)) 9 0) (t.check ▷ question_outcome p y)
      (refused-unless (9 ∷ []) (question_lengths n m y (length x₀) (length z₀)) 9 0 refl)
      (refused-then (plan_faults ++ set_faults) (15 ∷ []) t.check (question_outcome p y) t.numbers (question-numbers p y))

  number_is : answer_number r ≡ number_of asked
  number_is = call.number ∙ ap number_of (given-outcome asked solved)

  asked-passed : (answer_number r ≡ 0) ↔ (asked ≡ Outcome.Passed)
  unfolding among
  asked-passed =
      let (there, back) = zero-passed faults asked asked-numbers refl in
      ((λ e. there (sym number_is ∙ e)), λ e. number_is ∙ back e)

  by : NumberFrom faults (answer_number r)
  by = subst (NumberFrom faults) (sym number_is) (number-from faults asked asked-numbers)

  answered : (answer_number r ≡ 0) ↔ (X × Askable p n m y (length x₀) (length z₀))
  unfolding question_after
  answered = (
    (λ e.
        let (ask, judged) = asked-parts t.check p n m y (length x₀) (length z₀) (asked-passed.0 e) in
        (t.exactly.0 judged, ask)),
    λ h.
        asked-passed.1
        (unless_holds (question_lengths n m y (length x₀) (length z₀)) 9 0 (t.check ▷ question_outcome p y) (askable-lengths p n m y (length x₀) (length z₀) h.1)
        (after-passed t.check (question_outcome p y) (t.exactly.1 h.0) ∙ question-holds p y h.1.residues)),
  )

  cleared : ¬ (answer_number r ≡ 0) → (x ≡ zeros (length x₀)) × (z ≡ zeros (length z₀))
  cleared f = go asked refl
    where
      go : (o : Outcome) → asked ≡ o → (x ≡ zeros (length x₀)) × (z ≡ zeros (length z₀))
      go Outcome.Passed e = absurd (f (asked-passed.1 e))
      go (Outcome.Refused k d) e = (
        call.x-is ∙ ap (λ (o : Outcome). filled (length x₀) (given o solved).x) e ∙ filled_none (length x₀),
        call.z-is ∙ ap (λ (o : Outcome). filled (length z₀) (given o solved).z) e ∙ filled_none (length z₀),
      )

  -- what follows the check gives none of its t.numbers
  judged-none : (Y : Type 0) → Askable p n m y (length x₀) (length z₀) → ((among (number_of (t.check ▷ question_outcome p y)) set_faults ≡ false) ↔ Y) → (among (answer_number r) set_faults ≡ false) ↔ Y
  unfolding question_after
  judged-none Y h k =
      subst (λ (i : ℕ). (among i set_faults ≡ false) ↔ Y)
      (sym (number_is ∙ ap (λ (b : Bool). number_of (unless b 9 0 ▷ t.check ▷ question_outcome p y)) (askable-lengths p n m y (length x₀) (length z₀) h))) k

  -- ---- the answer

  module _ (done : answer_number r ≡ 0) where
    passed : asked ≡ Outcome.Passed
    passed = asked-passed.0 done

    ask : Askable p n m y (length x₀) (length z₀)
    ask = (answered.0 done).1

    c : Checked p n m A s (length w₀)
    c = t.checked (asked-parts t.check p n m y (length x₀) (length z₀) passed).1

    inside : (j : ℕ) → j < m → vector y j < p
    inside j h = ask.residues j (omega (arith, ask.values))

    answer-is : r ≡ answer_of solved.verdict
    answer-is = call.answer ∙ ap (λ (o : Outcome). (given o solved).answer) passed

    opened : r ≡ Answer.Open → solved.verdict ≡ Verdict.Open
    opened e = open-verdict solved.verdict (sym answer-is ∙ e)

    closed : r ≡ Answer.Closed → solved.verdict ≡ Verdict.Closed
    closed e = closed-verdict solved.verdict (sym answer-is ∙ e)

    x-left : length solved.x ≡ n → x ≡ solved.x
    x-left long = call.x-is ∙ ap (λ (o : Outcome). filled (length x₀) (given o solved).x) passed ∙ filled-whole (length x₀) solved.x (long ∙ sym ask.rows)

    z-left : length solved.z ≡ m → z ≡ solved.z
    z-left long = call.z-is ∙ ap (λ (o : Outcome). filled (length z₀) (given o solved).z) passed ∙ filled-whole (length z₀) solved.z (long ∙ sym ask.columns)

    solved-from : SolvedFrom p n m A s y r x z
    solved-from =
        let (long-x, long-z) = solve-lengths p n m s (vector y) in
        record {
          prime = c.prime;
          sized = c.sized;
          judged = c.judged;
          residues = inside;
          answer = answer-is;
          opened = opened;
          closed = closed;
          x-is = x-left long-x;
          z-is = z-left long-z;
        }

    open-left : r ≡ Answer.Open → LeftOpen p n m A s y x z
    open-left e =
        let (long, right, none) = sets.open-answer c.prime n m A s c.sized.row-order c.sized.column-order c.judged y inside (opened e) in
        let is_x = x-left long in
        record {
          length-x = ap length is_x ∙ long;
          answer = subst (λ (l : List ℕ). OpenAnswer p n m s.r (matrix A) (vector s.R) (vector y) (vector l)) (sym is_x) right;
          z-is = z-left (ap length none ∙ length-zeros m) ∙ none;
        }

    closed-left : r ≡ Answer.Closed → LeftClosed p n m A s y x z
    closed-left e =
        let (long, right, none) = sets.closed-answer c.prime n m A s c.sized.row-order c.sized.column-order c.judged y inside (closed e) in
        let is-z = z-left long in
        record {
          length-z = ap length is-z ∙ long;
          answer = subst (λ (l : List ℕ). ClosedAnswer p n m s.r (matrix A) (vector s.C) (lowest_of m (remainder p s (vector y))) (vector l)) (sym is-z) right;
          differs =
              subst (λ (l : List ℕ). ¬ (dot m (vector y) (vector l) ≈⟨ p ⟩ 0)) (sym is-z)
              (sets.closed-differs c.prime n m A s c.sized.row-order c.sized.column-order c.judged y inside (closed e));
          x-is = x-left (ap length none ∙ length-zeros n) ∙ none;
        }

    right : AnswersRight p n m A s y r x z
    right =
        let (there, back) = sets.open-exactly c.prime n m A s c.sized.row-order c.sized.column-order c.judged y inside in
        let (out, none) = sets.closed-exactly c.prime n m A s c.sized.row-order c.sized.column-order c.judged y inside in
        record {
          open-exactly = (λ e. there (opened e), λ q. answer-is ∙ ap answer_of (back q));
          closed-exactly = (λ e. out (closed e), λ q. answer-is ∙ ap answer_of (none q));
          open-left = open-left;
          closed-left = closed-left;
          one_value = λ e. sets.open-determined c.prime n m A s c.sized.row-order c.sized.column-order c.judged y inside (opened e);
          every_value = λ e. sets.closed-undetermined c.prime n m A s c.sized.row-order c.sized.column-order c.judged y inside (closed e);
        }

-- ---- from stored factors

module _ (p n m : ℕ) (A : Compressed) (s : Set) (y : List ℕ) (r : Answer) (x₀ x z₀ z w₀ w : List ℕ)
    (call : Answers (answer_factors_of p n m A s y (length x₀) (length z₀) (length w₀)) r x₀ x z₀ z w₀ w) where
  pub stored-answered : (answer_number r ≡ 0) ↔ (StoredPasses p n m A s (length w₀) × Askable p n m y (length x₀) (length z₀))
  unfolding answer_factors_of
  stored-answered =
      answered _ p n m A s y r x₀ x z₀ z w₀ w (stored-test p n m A s (length w₀)) call

  pub stored-after : (q : Outcome) (w₁ w₂ : List ℕ) → Checks (check_factors_of p n m A s (length w₁)) q w₁ w₂ → number_of q ≡ 0
      → length w₀ ≡ work_length → Askable p n m y (length x₀) (length z₀) → answer_number r ≡ 0
  stored-after q w₁ w₂ check passed wide ask =
      let h = (stored-passes p n m A s q w₁ w₂ check).0 passed in
      stored-answered.1 (record { plan = h.plan; sized = h.sized; work = wide; passes = h.passes }, ask)

  pub stored-right : answer_number r ≡ 0 → AnswersRight p n m A s y r x z
  unfolding answer_factors_of
  stored-right =
      right _ p n m A s y r x₀ x z₀ z w₀ w (stored-test p n m A s (length w₀)) call

  pub stored-solved : answer_number r ≡ 0 → SolvedFrom p n m A s y r x z
  unfolding answer_factors_of
  stored-solved =
      solved-from _ p n m A s y r x₀ x z₀ z w₀ w (stored-test p n m A s (length w₀)) call

  pub stored-by : NumberFrom faults (answer_number r)
  unfolding answer_factors_of
  stored-by = by _ p n m A s y r x₀ x z₀ z w₀ w (stored-test p n m A s (length w₀)) call

  pub stored-cleared : ¬ (answer_number r ≡ 0) → (x ≡ zeros (length x₀)) × (z ≡ zeros (length z₀))
  unfolding answer_factors_of
  stored-cleared =
      cleared _ p n m A s y r x₀ x z₀ z w₀ w (stored-test p n m A s (length w₀)) call

  pub stored-judged : GoodPlan p n m A → Sized n m s → length w₀ ≡ work_length → Askable p n m y (length x₀) (length z₀) → (among (answer_number r) set_faults ≡ false) ↔ Passes p n m A s
  unfolding answer_factors_of
  stored-judged g t l h =
      judged-none _ p n m A s y r x₀ x z₀ z w₀ w (stored-test p n m A s (length w₀)) call (Passes p n m A s) h
      (factors-none p n m A s (length w₀) g t l (question_outcome p y) (question-none p y))

-- ---- from a certificate

module _ (p n m : ℕ) (A : Compressed) (cert y : List ℕ) (r : Answer) (x₀ x z₀ z w₀ w : List ℕ)
    (call : Answers (answer_certificate_of p n m A cert y (length x₀) (length z₀) (length w₀)) r x₀ x z₀ z w₀ w) where
  abbrev set : Set
  set = set_of_certificate n m cert

  pub bytes-answered : (answer_number r ≡ 0) ↔ (CertificatePasses p n m A cert (length w₀) × Askable p n m y (length x₀) (length z₀))
  unfolding answer_certificate_of
  bytes-answered =
      answered _ p n m A set y r x₀ x z₀ z w₀ w (bytes-test p n m A cert (length w₀)) call

  pub bytes_after : (q : Outcome) (w₁ w₂ : List ℕ) → Checks (check_certificate_of p n m A cert (length w₁)) q w₁ w₂ → number_of q ≡ 0
      → length w₀ ≡ work_length → Askable p n m y (length x₀) (length z₀) → answer_number r ≡ 0
  bytes_after q w₁ w₂ check passed wide ask =
      let h = (bytes-pass p n m A cert q w₁ w₂ check).0 passed in
      bytes-answered.1 (record { plan = h.plan; work = wide; layout = h.layout; passes = h.passes }, ask)

  pub bytes-right : answer_number r ≡ 0 → AnswersRight p n m A set y r x z
  unfolding answer_certificate_of
  bytes-right =
      right _ p n m A set y r x₀ x z₀ z w₀ w (bytes-test p n m A cert (length w₀)) call

  pub bytes-solved : answer_number r ≡ 0 → SolvedFrom p n m A set y r x z
  unfolding answer_certificate_of
  bytes-solved =
      solved-from _ p n m A set y r x₀ x z₀ z w₀ w (bytes-test p n m A cert (length w₀)) call

  pub bytes-by : NumberFrom faults (answer_number r)
  unfolding answer_certificate_of
  bytes-by =
      by _ p n m A set y r x₀ x z₀ z w₀ w (bytes-test p n m A cert (length w₀)) call

  pub bytes-cleared : ¬ (answer_number r ≡ 0) → (x ≡ zeros (length x₀)) × (z ≡ zeros (length z₀))
  unfolding answer_certificate_of
  bytes-cleared =
      cleared _ p n m A set y r x₀ x z₀ z w₀ w (bytes-test p n m A cert (length w₀)) call

  pub bytes-judged : GoodPlan p n m A → length w₀ ≡ work_length → Askable p n m y (length x₀) (length z₀) → (among (answer_number r) set_faults ≡ false) ↔ ((header_ok p n m cert ≡ true) × Passes p n m A set)
  unfolding answer_certificate_of
  bytes-judged g l h =
      judged-none _ p n m A set y r x₀ x z₀ z w₀ w (bytes-test p n m A cert (length w₀)) call
      ((header_ok p n m cert ≡ true) × Passes p n m A set) h
      (certificate-none p n m A cert (length w₀) g l (question_outcome p y) (question-none p y))

-- ---- two answers to one question

-- the verdict of an answer, whichever set it came from
record Decides (p n m : ℕ) (A : Compressed) (y : List ℕ) (r : Answer) : Type 0 where
  pub opens : (r ≡ Answer.Open) ↔ InRowSpace p n m (matrix A) (vector y)
  pub closes : (r ≡ Answer.Closed) ↔ (¬ InRowSpace p n m (matrix A) (vector y))

decides : (p n m : ℕ) (A : Compressed) (y : List ℕ) (r : Answer) → AnswerOf p n m A y r → Decides p n m A y r
decides p n m A y r (from_stored s x₀ x z₀ z w₀ w call done) = let h = stored-right p n m A s y r x₀ x z₀ z w₀ w call done in record { opens = h.open-exactly; closes = h.closed-exactly }
decides p n m A y r (from_bytes cert x₀ x z₀ z w₀ w call done) = let h = bytes-right p n m A cert y r x₀ x z₀ z w₀ w call done in record { opens = h.open-exactly; closes = h.closed-exactly }

pub answers_agree : (p n m : ℕ) (A : Compressed) (y : List ℕ) (r r' : Answer) → AnswerOf p n m A y r → AnswerOf p n m A y r'
    → ((r ≡ Answer.Open) ↔ (r' ≡ Answer.Open)) × ((r ≡ Answer.Closed) ↔ (r' ≡ Answer.Closed))
answers_agree p n m A y r r' a b =
    let h = decides p n m A y r a in
    let k = decides p n m A y r' b in (
      ((λ e. k.opens.1 (h.opens.0 e)), λ e. h.opens.1 (k.opens.0 e)),
      ((λ e. k.closes.1 (h.closes.0 e)), λ e. h.closes.1 (k.closes.0 e)),
    )

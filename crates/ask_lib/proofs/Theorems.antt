-- What the line of an answer says, with what the call left: its first `size` bytes of the buffer are what is printed.
--   ask-right      a text that states a plan whose factors fit, and a question of m residues: the line of an answer that is right (`AskRight`)
--   ask-refused    a text that states no plan: the line of a refusal by one of the numbers of a text
--   ask-storage    a plan whose factors overflow: the line of refusal 7 at the first row that does, counted from 1
--   ask-length     a question that has not m values: the line of refusal 9
--   ask-value      a question of m values that are not all residues: the line of refusal 15 at the first that is none, counted from 1
use mathlib.Core.Path.{◌≡◌, refl, sym, ap, subst, ◌∙◌}
use mathlib.Core.Logic.{◌⊎◌, inl, inr}
use mathlib.Core.Bool.{Bool, true, false}
use mathlib.Core.List.{List}
use Prim.Native.Nat.{ℕ, ◌+◌, ◌<◌}
use native.Mathlib.Omega.{arith}
use lib.Dec.{leb, ltb}
use lib.ListN.{length, get_or, take}
use borrow.Author.Tests.{eq-eqb, leb-false, ltb-true, ltb-false}
use Rattle.lists.specs.Filled.{zeros, filled}
use Rattle.lists.specs.Tests.{first}
use Rattle.refusals.specs.Table.{text_faults, storage_too_short, wrong_length, question_too_large}
use Rattle.refusals.specs.Refusals.{unless, number_of, detail_of}
use Rattle.refusals.specs.Outcome.{Outcome}
use Rattle.refusals.specs.Outcome.{Passed, Refused}
use Rattle.lists.proofs.Filled.{length-zeros, filled-whole}
use Rattle.lists.proofs.Tests.{first-before, first-here}
use Rattle.algebra.specs.Matrix.{vector}
use Rattle.sparse.specs.Row.{Below}
use Rattle.sparse.specs.Matrix.{Compressed}
use Rattle.sparse.specs.Set.{Set}
use Rattle.row_space.specs.Question.{question_outcome}
use Rattle.row_space.specs.Solve.{Solved, solve}
use Rattle.answer_question.proofs.Passed.{question-passed}
use Rattle.limits.specs.Limits.{largest_entries, work_length}
use Rattle.byte_buffer.specs.Fills.{Fills}
use Rattle.text_plan.specs.Call.{ReadAnswer}
use Rattle.text_plan.specs.Held.{plan_of}
use Rattle.text_owners.specs.Stating.{StatesText}
use Rattle.call_check.specs.Calls.{check_factors_of}
use Rattle.call_check.specs.Passing.{StoredPasses}
use Rattle.call_check.proofs.Theorems.{factors-exactly}
use Rattle.call_answer.specs.Calls.{answer_of, Given, given, answer_factors_of, Answers}
use Rattle.call_answer.specs.Meaning.{AnswersRight}
use Rattle.call_answer.proofs.Lengths.{values-differ, columns-tested}
use Rattle.call_answer.proofs.Ways.{wrong-lengths, question-tested, answered-number, answered-detail}
use Rattle.call_answer.proofs.Theorems.{stored-right}
use Rattle.factor_all.specs.Factorization.{Factorization}
use Rattle.print_text.specs.Report.{refusal_text}
use Rattle.print_text.specs.Printed.{PrintsRefusal}
use Rattle.print_text.proofs.Shown.{fills-shown}
use Rattle.stages.specs.Stages.{reading}
use Rattle.stages.specs.Meaning.{factors_of, FitsAll, OverflowsAt}
use Rattle.stages.proofs.ReadText.{reading-good, factored-whole}
use Rattle.stages.proofs.Passing.{factors-pass}
use Rattle.ask_lib.specs.Asking.{answer_for, given_line, after_stages, ask_read_of, ask_of, Asks}
use Rattle.ask_lib.specs.Meaning.{AskRight, FirstTooLarge}
use Rattle.ask_lib.proofs.Answered.{solved-sized}
use Rattle.ask_lib.proofs.Following.{text-refused, text-storage, text-whole}

-- ---- the values of a question, or of slots: all residues, or refused at the first that is none

pub value-cases : (p : ℕ) (y : List ℕ) → (question_outcome p y ≡ Passed) ⊎ ((i : ℕ) × (question_outcome p y ≡ Refused question_too_large i) × FirstTooLarge p y i)
unfolding question_outcome
value-cases p y = go (leb (length y) at) refl
  where
    small : ℕ → Bool
    small j = ltb (get_or y j 0) p

    at : ℕ
    at = first (length y) small

    go : (b : Bool) → leb (length y) at ≡ b → (unless b 15 at ≡ Passed) ⊎ ((i : ℕ) × (unless b 15 at ≡ Refused 15 i) × FirstTooLarge p y i)
    go true e = inl refl
    go false e =
        let found : at < length y = leb-false (length y) at e in
        inr (
          at,
          refl,
          record {
            inside = found;
            before = λ k h. ltb-true (get_or y k 0) p (first-before (length y) small k h);
            large = ltb-false (get_or y at 0) p (first-here (length y) small found);
          },
        )

pub value-passed : (p : ℕ) (y : List ℕ) → Below p y → question_outcome p y ≡ Passed
value-passed p y h = go (value-cases p y)
  where
    go : (question_outcome p y ≡ Passed) ⊎ ((i : ℕ) × (question_outcome p y ≡ Refused 15 i) × FirstTooLarge p y i) → question_outcome p y ≡ Passed
    go (inl e) = e
    go (inr (i, e, f)) = absurd (omega (arith, h i f.inside, f.large))

pub value-refused : (p : ℕ) (y : List ℕ) → ¬ Below p y → (i : ℕ) × (question_outcome p y ≡ Refused question_too_large i) × FirstTooLarge p y i
value-refused p y n = go (value-cases p y)
  where
    go : (question_outcome p y ≡ Passed) ⊎ ((i : ℕ) × (question_outcome p y ≡ Refused 15 i) × FirstTooLarge p y i) → (i : ℕ) × (question_outcome p y ≡ Refused 15 i) × FirstTooLarge p y i
    go (inl e) = absurd (n (question-passed p y e))
    go (inr r) = r

-- ---- a question to a set that passes the check

module _ (p n m : ℕ) (A : Compressed) (s : Set) (passes : StoredPasses p n m A s work_length) (y : List ℕ) where
  abbrev solved : Solved
  solved = solve p n m s (vector y)

  abbrev check : Outcome
  check = check_factors_of p n m A s work_length

  given-length : ¬ (length y ≡ m) → answer_factors_of p n m A s y n m work_length ≡ given (Refused wrong_length 0) solved
  unfolding answer_factors_of
  given-length f = ap (λ (o : Outcome). given o solved) (sym (wrong-lengths check p n m y n m (sym (values-differ n m y n m f))))

  module _ (long : length y ≡ m) where
    given-values : (o : Outcome) → question_outcome p y ≡ o → answer_factors_of p n m A s y n m work_length ≡ given o solved
    unfolding answer_factors_of
    given-values o e =
        ap (λ (o : Outcome). given o solved)
        (sym (question-tested check p n m y n m (sym (columns-tested n m y n m long refl) ∙ eq-eqb m m refl) Passed (sym ((factors-exactly p n m A s work_length).1 passes)) refl o (sym e)))

    module _ (residues : Below p y) where
      given-all : answer_factors_of p n m A s y n m work_length ≡ given Passed solved
      given-all = given-values Passed (value-passed p y residues)

      -- as a call that answers leaves it
      as_call : (x₀ z₀ w₀ : List ℕ) → length x₀ ≡ n → length z₀ ≡ m → length w₀ ≡ work_length
          → Answers (answer_factors_of p n m A s y (length x₀) (length z₀) (length w₀)) (answer_of solved.verdict) x₀ solved.x z₀ solved.z w₀ (zeros (length w₀))
      as_call x₀ z₀ w₀ long-x long-z wide =
          let same : answer_factors_of p n m A s y (length x₀) (length z₀) (length w₀) ≡ given Passed solved = (λ t. answer_factors_of p n m A s y (long-x t) (long-z t) (wide t)) ∙ given-all in
          let (sized-x, sized-z) = solved-sized p n m s (vector y) in
          record {
            answer = ap (λ (g : Given). g.answer) (sym same);
            number = answered-number solved.verdict ∙ ap (λ (g : Given). number_of g.outcome) (sym same);
            detail = answered-detail solved.verdict ∙ ap (λ (g : Given). detail_of g.outcome) (sym same);
            x-is = sym (ap (λ (g : Given). filled (length x₀) g.x) same ∙ filled-whole (length x₀) solved.x (sized-x ∙ sym long-x));
            z-is = sym (ap (λ (g : Given). filled (length z₀) g.z) same ∙ filled-whole (length z₀) solved.z (sized-z ∙ sym long-z));
            cleared = refl;
          }

      solved-right : AnswersRight p n m A s y (answer_of solved.verdict) solved.x solved.z
      solved-right =
          stored-right p n m A s y (answer_of solved.verdict) (zeros n) solved.x (zeros m) solved.z (zeros work_length) (zeros (length (zeros work_length)))
          (as_call (zeros n) (zeros m) (zeros work_length) (length-zeros n) (length-zeros m) (length-zeros work_length)) (answered-number solved.verdict)

-- ---- the call

module _ (text y : List ℕ) (size : ℕ) (b₀ b w₀ w : List ℕ) (call : Asks text y size b₀ b w₀ w) where
  abbrev p₁ : ℕ
  p₁ = (reading text).result.p

  abbrev n₁ : ℕ
  n₁ = (reading text).result.n

  abbrev m₁ : ℕ
  m₁ = (reading text).result.m

  abbrev plan : Compressed
  plan = plan_of (reading text)

  abbrev set : Set
  set = factors_of (reading text)

  -- what is printed once factoring passed
  abbrev line : Factorization → List ℕ
  line f = given_line (answer_for (reading text) f y)

  shown : take size b ≡ after_stages (reading text) line
  unfolding ask_of ask_read_of
  shown = fills-shown b₀ b size (ask_of text y) call.answer

  pub ask-refused : ¬ StatesText largest_entries text → PrintsRefusal text_faults (take size b)
  ask-refused none = subst (PrintsRefusal text_faults) (sym shown) (text-refused text line none)

  module _ (states : StatesText largest_entries text) where
    passes₁ : StoredPasses p₁ n₁ m₁ plan set work_length
    passes₁ = factors-pass p₁ n₁ m₁ plan (reading-good text states)

    pub ask-storage : ¬ FitsAll (reading text) → (i : ℕ) × (take size b ≡ refusal_text storage_too_short (i + 1)) × OverflowsAt (reading text) i
    ask-storage none = let (i, refused, overflows) = text-storage text line states none in (i, shown ∙ refused, overflows)

    module _ (fits : FitsAll (reading text)) where
      shown-whole : (g : Given) → answer_factors_of p₁ n₁ m₁ plan set y n₁ m₁ work_length ≡ g → take size b ≡ given_line g
      shown-whole g e = shown ∙ text-whole text line states _ (factored-whole text states fits) refl ∙ ap given_line e

      pub ask-length : ¬ (length y ≡ m₁) → take size b ≡ refusal_text wrong_length 0
      unfolding given_line
      ask-length f = shown-whole _ (given-length p₁ n₁ m₁ plan set passes₁ y f)

      module _ (long : length y ≡ m₁) where
        pub ask-value : ¬ Below p₁ y → (i : ℕ) × (take size b ≡ refusal_text question_too_large (i + 1)) × FirstTooLarge p₁ y i
        unfolding given_line
        ask-value f =
            let (i, refused, found) = value-refused p₁ y f in
            (i, shown-whole _ (given-values p₁ n₁ m₁ plan set passes₁ y long (Refused 15 i) refused), found)

        pub ask-right : Below p₁ y → AskRight (reading text) y (take size b)
        unfolding given_line
        ask-right residues =
            let a = solve p₁ n₁ m₁ set (vector y) in
            record {
              answer = answer_of a.verdict;
              for-open = a.x;
              for-closed = a.z;
              printed-is = shown-whole _ (given-all p₁ n₁ m₁ plan set passes₁ y long residues);
              right = solved-right p₁ n₁ m₁ plan set passes₁ y long residues;
            }

-- ---- texts that are read as the same plan

pub asked-alike : (T T' : List ℕ) → reading T ≡ reading T' → (y : List ℕ) (size : ℕ) (b₀ b w₀ w : List ℕ) → Asks T y size b₀ b w₀ w → Asks T' y size b₀ b w₀ w
unfolding ask_of
asked-alike T T' same y size b₀ b w₀ w a = record { answer = subst (λ (x : ReadAnswer). Fills b₀ b size (ask_read_of x y)) same a.answer; cleared = a.cleared }

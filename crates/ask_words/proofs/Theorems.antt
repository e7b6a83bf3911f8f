-- What the line of an answer to slot values says, with what the call left: its first `size` bytes of the buffer are what is printed.
--   words_right      a text that states a plan whose factors fit, and n residues: the line of an answer that is right (`WordsRight`)
--   words-refused    a text that states no plan: the line of a refusal by one of the numbers of a text
--   words-storage    a plan whose factors overflow: the line of refusal 7 at the first row that does, counted from 1
--   words-length     slot values that are not n: the line of refusal 9
--   words-value      n slot values that are not all residues: the line of refusal 15 at the first that is none, counted from 1
--   words-alike      texts that are read as the same plan have the same line
use mathlib.Core.Path.{◌≡◌, refl, sym, ap, subst, ◌∙◌}
use mathlib.Core.List.{List}
use Prim.Native.Nat.{ℕ, ◌+◌}
use lib.ListN.{length, take}
use Rattle.lists.specs.Filled.{zeros, filled}
use Rattle.lists.proofs.Filled.{length-zeros, filled-whole}
use Rattle.refusals.specs.Table.{text_faults, storage_too_short, wrong_length, question_too_large}
use Rattle.refusals.specs.Refusals.{number_of, detail_of}
use Rattle.refusals.specs.Outcome.{Outcome}
use Rattle.refusals.specs.Outcome.{Passed, Refused}
use Rattle.algebra.specs.Matrix.{vector}
use Rattle.sparse.specs.Row.{Below}
use Rattle.sparse.specs.Matrix.{Compressed}
use Rattle.sparse.specs.Set.{Set}
use Rattle.row_space.specs.Question.{question_outcome}
use Rattle.column_space.specs.Slots.{SlotSolution, solve_slots}
use Rattle.column_space.proofs.Solutions.{solve-slots-lengths}
use Rattle.limits.specs.Limits.{largest_entries, work_length}
use Rattle.byte_buffer.specs.Fills.{Fills}
use Rattle.text_plan.specs.Call.{ReadAnswer}
use Rattle.text_plan.specs.Held.{plan_of}
use Rattle.text_owners.specs.Stating.{StatesText}
use Rattle.factor_all.specs.Factorization.{Factorization}
use Rattle.call_check.specs.Calls.{check_factors_of}
use Rattle.call_check.specs.Passing.{StoredPasses}
use Rattle.call_check.proofs.Theorems.{factors-exactly}
use Rattle.call_slots.specs.Calls.{solution_of, SlotsGiven, slots_given, slots_factors_of, Solves}
use Rattle.call_slots.specs.Meaning.{SolvesRight}
use Rattle.call_slots.proofs.Lengths.{values-differ, lengths-pass}
use Rattle.call_slots.proofs.Ways.{solution-number, solution-detail, wrong-lengths, slots-tested}
use Rattle.call_slots.proofs.Theorems.{stored-right}
use Rattle.print_text.specs.Report.{refusal_text}
use Rattle.print_text.specs.Printed.{PrintsRefusal}
use Rattle.print_text.proofs.Shown.{fills-shown}
use Rattle.stages.specs.Stages.{reading}
use Rattle.stages.specs.Meaning.{factors_of, FitsAll, OverflowsAt}
use Rattle.stages.proofs.ReadText.{reading-good, factored-whole}
use Rattle.stages.proofs.Passing.{factors-pass}
use Rattle.ask_lib.specs.Asking.{after_stages}
use Rattle.ask_lib.specs.Meaning.{FirstTooLarge}
use Rattle.ask_lib.proofs.Following.{text-refused, text-storage, text-whole}
use Rattle.ask_lib.proofs.Theorems.{value-passed, value-refused}
use Rattle.ask_words.specs.Solving.{slots_for, solution_line, words_read_of, words_of, TellsWords}
use Rattle.ask_words.specs.Meaning.{WordsRight}

-- ---- slot values for a set that passes the check

module _ (p n m : ℕ) (A : Compressed) (s : Set) (passes : StoredPasses p n m A s work_length) (h : List ℕ) where
  abbrev solved : SlotSolution
  solved = solve_slots p n m s (vector h)

  abbrev check : Outcome
  check = check_factors_of p n m A s work_length

  given-length : ¬ (length h ≡ n) → slots_factors_of p n m m A s h m n work_length ≡ slots_given (Refused wrong_length 0) solved
  unfolding slots_factors_of
  given-length f = ap (λ (o : Outcome). slots_given o solved) (sym (wrong-lengths check p n m m h m n (sym (values-differ n m m h m n refl f))))

  module _ (long : length h ≡ n) where
    given-values : (o : Outcome) → question_outcome p h ≡ o → slots_factors_of p n m m A s h m n work_length ≡ slots_given o solved
    unfolding slots_factors_of
    given-values o e =
        ap (λ (o : Outcome). slots_given o solved)
        (sym (slots-tested check p n m m h m n (lengths-pass n m m h m n refl long refl refl) Passed (sym ((factors-exactly p n m A s work_length).1 passes)) refl o (sym e)))

    module _ (residues : Below p h) where
      given-all : slots_factors_of p n m m A s h m n work_length ≡ slots_given Passed solved
      given-all = given-values Passed (value-passed p h residues)

      -- as a call that answers leaves it
      as_call : (s₀ w₀ v₀ : List ℕ) → length s₀ ≡ m → length w₀ ≡ n → length v₀ ≡ work_length
          → Solves (slots_factors_of p n m m A s h (length s₀) (length w₀) (length v₀)) (solution_of solved.verdict) s₀ solved.s w₀ solved.w v₀ (zeros (length v₀))
      as_call s₀ w₀ v₀ long-s long-w wide =
          let same : slots_factors_of p n m m A s h (length s₀) (length w₀) (length v₀) ≡ slots_given Passed solved = (λ t. slots_factors_of p n m m A s h (long-s t) (long-w t) (wide t)) ∙ given-all in
          let (sized-s, sized-w) = solve-slots-lengths p n m s (vector h) in
          record {
            answer = ap (λ (g : SlotsGiven). g.answer) (sym same);
            number = solution-number solved.verdict ∙ ap (λ (g : SlotsGiven). number_of g.outcome) (sym same);
            detail = solution-detail solved.verdict ∙ ap (λ (g : SlotsGiven). detail_of g.outcome) (sym same);
            s-is = sym (ap (λ (g : SlotsGiven). filled (length s₀) g.s) same ∙ filled-whole (length s₀) solved.s (sized-s ∙ sym long-s));
            w-is = sym (ap (λ (g : SlotsGiven). filled (length w₀) g.w) same ∙ filled-whole (length w₀) solved.w (sized-w ∙ sym long-w));
            cleared = refl;
          }

      solved-right : SolvesRight p n m A s h (solution_of solved.verdict) solved.s solved.w
      solved-right =
          stored-right p n m m A s h (solution_of solved.verdict) (zeros m) solved.s (zeros n) solved.w (zeros work_length) (zeros (length (zeros work_length)))
          (as_call (zeros m) (zeros n) (zeros work_length) (length-zeros m) (length-zeros n) (length-zeros work_length)) (solution-number solved.verdict)

-- ---- the call

module _ (text h : List ℕ) (size : ℕ) (b₀ b w₀ w : List ℕ) (call : TellsWords text h size b₀ b w₀ w) where
  abbrev p₁ : ℕ
  p₁ = (reading text).result.p

  abbrev n₁ : ℕ
  n₁ = (reading text).result.n

  abbrev m₁ : ℕ
  m₁ = (reading text).result.m

  abbrev plan : Compressed
  plan = plan_of (reading text)

  abbrev set : Set
  set = factors_of (reading text)

  -- what is printed once factoring passed
  abbrev line : Factorization → List ℕ
  line f = solution_line (slots_for (reading text) f h)

  shown : take size b ≡ after_stages (reading text) line
  unfolding words_of words_read_of
  shown = fills-shown b₀ b size (words_of text h) call.answer

  pub words-refused : ¬ StatesText largest_entries text → PrintsRefusal text_faults (take size b)
  words-refused none = subst (PrintsRefusal text_faults) (sym shown) (text-refused text line none)

  module _ (states : StatesText largest_entries text) where
    passes₁ : StoredPasses p₁ n₁ m₁ plan set work_length
    passes₁ = factors-pass p₁ n₁ m₁ plan (reading-good text states)

    pub words-storage : ¬ FitsAll (reading text) → (i : ℕ) × (take size b ≡ refusal_text storage_too_short (i + 1)) × OverflowsAt (reading text) i
    words-storage none = let (i, refused, overflows) = text-storage text line states none in (i, shown ∙ refused, overflows)

    module _ (fits : FitsAll (reading text)) where
      shown-whole : (g : SlotsGiven) → slots_factors_of p₁ n₁ m₁ m₁ plan set h m₁ n₁ work_length ≡ g → take size b ≡ solution_line g
      shown-whole g e = shown ∙ text-whole text line states _ (factored-whole text states fits) refl ∙ ap solution_line e

      pub words-length : ¬ (length h ≡ n₁) → take size b ≡ refusal_text wrong_length 0
      unfolding solution_line
      words-length f = shown-whole _ (given-length p₁ n₁ m₁ plan set passes₁ h f)

      module _ (long : length h ≡ n₁) where
        pub words-value : ¬ Below p₁ h → (i : ℕ) × (take size b ≡ refusal_text question_too_large (i + 1)) × FirstTooLarge p₁ h i
        unfolding solution_line
        words-value f =
            let (i, refused, found) = value-refused p₁ h f in
            (i, shown-whole _ (given-values p₁ n₁ m₁ plan set passes₁ h long (Refused 15 i) refused), found)

        pub words_right : Below p₁ h → WordsRight (reading text) h (take size b)
        unfolding solution_line
        words_right residues =
            let a = solve_slots p₁ n₁ m₁ set (vector h) in
            record {
              answer = solution_of a.verdict;
              s = a.s;
              w = a.w;
              printed-is = shown-whole _ (given-all p₁ n₁ m₁ plan set passes₁ h long residues);
              right = solved-right p₁ n₁ m₁ plan set passes₁ h long residues;
            }

-- ---- texts that are read as the same plan

pub words-alike : (T T' : List ℕ) → reading T ≡ reading T' → (h : List ℕ) (size : ℕ) (b₀ b w₀ w : List ℕ) → TellsWords T h size b₀ b w₀ w → TellsWords T' h size b₀ b w₀ w
unfolding words_of
words-alike T T' same h size b₀ b w₀ w a = record { answer = subst (λ (x : ReadAnswer). Fills b₀ b size (words_read_of x h)) same a.answer; cleared = a.cleared }

-- One law for each way out of a call with a question. `check` is the check of the set, stored or in a certificate.
use mathlib.Core.Path.{◌≡◌, refl, sym, ap, subst, ◌∙◌}
use mathlib.Core.Bool.{true, false}
use mathlib.Core.List.{List}
use Prim.Native.Nat.{ℕ}
use native.Mathlib.Omega.{arith}
use lib.ListN.{length}
use Rattle.lists.specs.Filled.{zeros, filled}
use Rattle.refusals.specs.Refusals.{◌▷◌, number_of, detail_of}
use Rattle.refusals.specs.Outcome.{Outcome}
use Rattle.lists.proofs.Filled.{length-zeros, filled_none, filled-whole}
use Rattle.refusals.proofs.Refusals.{fails, holds, refused, passed, both-passed, unless-passed}
use Rattle.answer_question.proofs.Passed.{question-passed, passed-ready}
use Rattle.algebra.specs.Matrix.{vector}
use Rattle.sparse.specs.Matrix.{Compressed}
use Rattle.sparse.specs.Set.{Set}
use Rattle.row_space.specs.Question.{question_outcome}
use Rattle.row_space.specs.Solve.{Solved, solve}
use Rattle.row_space.specs.declared.Verdict.{Verdict}
use Rattle.answer_question.specs.Needs.{SetReady, AnswerReady}
use Rattle.answer_question.specs.Answering.{Answered}
use Rattle.call_check.specs.Calls.{Checks}
use Rattle.call_answer.specs.Calls.{answer_number, answer_detail, answer_of, question_lengths, question_after, given, Answers}
use Rattle.call_answer.specs.Meaning.{Askable}
use Rattle.call_answer.specs.Answer.{Answer}
use Rattle.call_check.proofs.Checked.{Checked}
use Rattle.call_answer.proofs.Lengths.{lengths-are}

-- ---- the tests

module _ (check : Outcome) (p n m : ℕ) (y : List ℕ) (a b : ℕ) where
  pub wrong-lengths : question_lengths n m y a b ≡ false → Outcome.Refused 9 0 ≡ question_after check p n m y a b
  unfolding question_after
  wrong-lengths e = fails (question_lengths n m y a b) 9 0 (check ▷ question_outcome p y) e

  module _ (long : question_lengths n m y a b ≡ true) (o : Outcome) (same : o ≡ check) where
    pub check-refused : (k d : ℕ) → o ≡ Outcome.Refused k d → o ≡ question_after check p n m y a b
    unfolding question_after
    check-refused k d f = holds (question_lengths n m y a b) 9 0 (check ▷ question_outcome p y) o long (refused o check (question_outcome p y) k d f same)

    pub question-tested : o ≡ Outcome.Passed → (t : Outcome) → t ≡ question_outcome p y → t ≡ question_after check p n m y a b
    unfolding question_after
    question-tested f t e = holds (question_lengths n m y a b) 9 0 (check ▷ question_outcome p y) t long (passed o check (question_outcome p y) t f same e)

  -- the parts of a question that passed
  pub asked-parts : question_after check p n m y a b ≡ Outcome.Passed → Askable p n m y a b × (check ≡ Outcome.Passed)
  unfolding question_after
  asked-parts h =
      let (long, rest) = unless-passed (question_lengths n m y a b) 9 0 (check ▷ question_outcome p y) h in
      let (judged, small) = both-passed check (question_outcome p y) rest in
      let (values, rows, columns) = lengths-are n m y a b long in
      (record { values = values; rows = rows; columns = columns; residues = question-passed p y small }, judged)

-- ---- what the answer needs

answer-ready : (p n m : ℕ) (A : Compressed) (s : Set) (y x z w : List ℕ) (width : ℕ)
    → Askable p n m y (length x) (length z) → Checked p n m A s width → w ≡ zeros width
    → AnswerReady p s y x z w
answer-ready p n m A s y x z w width l c clear =
    let wide : length w ≡ width = ap length clear ∙ length-zeros width in
    let set-ready = passed-ready p n m A s c.prime c.sized.row-order c.sized.column-order c.sized.lower-starts c.sized.upper-starts c.judged in
    record {
      set = subst (λ (k : ℕ). SetReady p k (length z) s) (sym l.rows) (subst (λ (k : ℕ). SetReady p n k s) (sym l.columns) set-ready);
      long = l.values ∙ sym l.columns;
      small = l.residues;
      room = omega (arith, l.columns, c.room);
      clear = clear ∙ ap zeros (sym wide);
    }

-- ---- the result

pub answered-number : (v : Verdict) → answer_number (answer_of v) ≡ 0
answered-number Verdict.Open = refl
answered-number Verdict.Closed = refl

pub answered-detail : (v : Verdict) → answer_detail (answer_of v) ≡ 0
answered-detail Verdict.Open = refl
answered-detail Verdict.Closed = refl

module _ (asked : Outcome) (a : Solved) (x₀ x z₀ z w₀ w : List ℕ) where
  -- a refusal leaves both lists all zero
  refused-leaves : (k d : ℕ) → Outcome.Refused k d ≡ asked → x ≡ zeros (length x₀) → z ≡ zeros (length z₀) → w ≡ zeros (length w₀)
      → Answers (given asked a) (Answer.Refused k d) x₀ x z₀ z w₀ w
  refused-leaves k d e ex ez ew =
      record {
        answer = ap (λ (o : Outcome). (given o a).answer) e;
        number = ap (λ (o : Outcome). number_of (given o a).outcome) e;
        detail = ap (λ (o : Outcome). detail_of (given o a).outcome) e;
        x-is = ex ∙ sym (filled_none (length x₀)) ∙ ap (λ (o : Outcome). filled (length x₀) (given o a).x) e;
        z-is = ez ∙ sym (filled_none (length z₀)) ∙ ap (λ (o : Outcome). filled (length z₀) (given o a).z) e;
        cleared = ew;
      }

  -- an answer fills both lists
  answered-leaves : Outcome.Passed ≡ asked → length x ≡ length x₀ → length z ≡ length z₀ → length w ≡ length w₀
      → (v : Verdict) (r : Answer) → r ≡ answer_of v → Answered a v x z w → Answers (given asked a) r x₀ x z₀ z w₀ w
  answered-leaves e lx lz lw v r f q =
      record {
        answer = f ∙ ap answer_of q.verdict ∙ ap (λ (o : Outcome). (given o a).answer) e;
        number = ap answer_number f ∙ answered-number v ∙ ap (λ (o : Outcome). number_of (given o a).outcome) e;
        detail = ap answer_detail f ∙ answered-detail v ∙ ap (λ (o : Outcome). detail_of (given o a).outcome) e;
        x-is = sym (filled-whole (length x₀) x lx) ∙ ap (filled (length x₀)) q.x-is ∙ ap (λ (o : Outcome). filled (length x₀) (given o a).x) e;
        z-is = sym (filled-whole (length z₀) z lz) ∙ ap (filled (length z₀)) q.z-is ∙ ap (λ (o : Outcome). filled (length z₀) (given o a).z) e;
        cleared = q.row ∙ ap zeros lw;
      }

-- o is the outcome of the tests, and w₁ the working row after them
module _ (check : Outcome) (p n m : ℕ) (s : Set) (y x₀ z₀ w₀ w₁ : List ℕ) (o : Outcome) (q : Checks (question_after check p n m y (length x₀) (length z₀)) o w₀ w₁) where
  abbrev asked : Outcome
  asked = question_after check p n m y (length x₀) (length z₀)

  pub refuses : (x z : List ℕ) (k d : ℕ) → o ≡ Outcome.Refused k d → x ≡ zeros (length x₀) → z ≡ zeros (length z₀)
      → Answers (given asked (solve p n m s (vector y))) (Answer.Refused k d) x₀ x z₀ z w₀ w₁
  refuses x z k d f ex ez = refused-leaves asked (solve p n m s (vector y)) x₀ x z₀ z w₀ w₁ k d (sym f ∙ q.outcome) ex ez q.cleared

  pub answers : o ≡ Outcome.Passed → (x z w : List ℕ) → length x ≡ length x₀ → length z ≡ length z₀ → length w ≡ length w₁
      → (v : Verdict) (r : Answer) → r ≡ answer_of v → Answered (solve p (length x₀) (length z₀) s (vector y)) v x z w
      → Answers (given asked (solve p n m s (vector y))) r x₀ x z₀ z w₀ w
  answers f x z w lx lz lw v r g a =
      let (l, judged) = asked-parts check p n m y (length x₀) (length z₀) (sym q.outcome ∙ f) in
      answered-leaves asked (solve p n m s (vector y)) x₀ x z₀ z w₀ w (sym f ∙ q.outcome) lx lz (lw ∙ ap length q.cleared ∙ length-zeros (length w₀)) v r g
      (subst (λ (t : Solved). Answered t v x z w) (λ j. solve p (l.rows j) (l.columns j) s (vector y)) a)

  pub check-passed : o ≡ Outcome.Passed → check ≡ Outcome.Passed
  check-passed f = (asked-parts check p n m y (length x₀) (length z₀) (sym q.outcome ∙ f)).1

  -- what the answer needs
  pub ready : o ≡ Outcome.Passed → (A : Compressed) → (check ≡ Outcome.Passed → Checked p n m A s (length w₀)) → AnswerReady p s y x₀ z₀ w₁
  ready f A checked =
      let (l, judged) = asked-parts check p n m y (length x₀) (length z₀) (sym q.outcome ∙ f) in
      answer-ready p n m A s y x₀ z₀ w₁ (length w₀) l (checked judged) q.cleared

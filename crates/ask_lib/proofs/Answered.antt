-- The line that is written for an answer is the line of what the call gives.
use mathlib.Core.Path.{◌≡◌, refl, ap, ◌∙◌, subst}
use mathlib.Core.Bool.{Bool, true, false, cond}
use mathlib.Core.List.{List, ◌++◌}
use Prim.Native.Nat.{ℕ, ◌≤◌}
use native.Mathlib.Omega.{arith}
use lib.Dec.{leb}
use lib.ListN.{length, take, drop}
use lib.Seq.{length-take-le, take_at}
use Rattle.lists.specs.Filled.{filled}
use Rattle.lists.specs.Tabulate.{tabulate}
use Rattle.refusals.specs.Refusals.{detail_of}
use Rattle.refusals.specs.Outcome.{Outcome}
use Rattle.lists.proofs.Filled.{length-zeros, filled-whole}
use Rattle.lists.proofs.Tabulate.{length-tabulate}
use Rattle.algebra.specs.Sum.{δ, place}
use Rattle.algebra.specs.Matrix.{Vector, vector}
use Rattle.sparse.specs.Matrix.{Compressed, matrix}
use Rattle.sparse.specs.Set.{Set, Storage}
use Rattle.row_space.specs.Substitution.{back_l, back_u}
use Rattle.row_space.specs.Solve.{remainder, multiples_of, lowest_of, Solved, opened, closed, solve}
use Rattle.row_space.specs.declared.Verdict.{Verdict}
use Rattle.limits.specs.Limits.{work_length}
use Rattle.call_check.specs.Calls.{check_factors_of}
use Rattle.call_answer.specs.Calls.{Given, answer_of, question_after, given, answer_factors_of, Answers}
use Rattle.call_answer.specs.Answer.{Answer}
use Rattle.print_text.specs.Answer.{answer_line, answer_text}
use Rattle.text_plan.specs.Held.{held_plan}
use Rattle.stages.specs.Staged.{held_set}
use Rattle.stages.specs.Results.{Stages}
use Rattle.ask_lib.specs.Asking.{is_open_answer, given_line}
use Rattle.ask_lib.specs.Held.{answer_line_of, held_answer, AnswerHeld}
use Rattle.ask_lib.specs.Needs.{Answerable}
use Rattle.ask_lib.proofs.Details.{question-small}

-- ---- the lists of an answer have their lengths

abbrev pub Sized : ℕ → ℕ → Solved → Type 0
Sized n m a = (length a.x ≡ n) × (length a.z ≡ m)

pub solved-sized : (p n m : ℕ) (s : Set) (y : Vector) → Sized n m (solve p n m s y)
unfolding solve
solved-sized p n m s y = go (leb m (lowest_of m (remainder p s y)))
  where
    x : ℕ → ℕ
    x = place s.r (vector s.R) (back_l p (matrix s.L) s.r (multiples_of p s y))

    z : ℕ → ℕ
    z = back_u p m (vector s.C) (matrix s.U) s.r (δ (lowest_of m (remainder p s y)))

    go : (t : Bool) → Sized n m (cond t (opened m (tabulate n x)) (closed n (tabulate m z)))
    go true = (length-tabulate n x, length-zeros m)
    go false = (length-zeros n, length-tabulate m z)

-- ---- the line

module _ (n m : ℕ) (a : Solved) (sized : Sized n m a) where
  verdict-line : (v : Verdict) → answer_line_of (answer_of v) (filled n a.x) (filled m a.z) ≡ answer_text (is_open_answer (answer_of v)) a.x a.z
  verdict-line Verdict.Open = ap (answer_line true) (filled-whole n a.x sized.0)
  verdict-line Verdict.Closed = ap (answer_line false) (filled-whole m a.z sized.1)

  given-line : (o : Outcome) → answer_line_of (given o a).answer (filled n (given o a).x) (filled m (given o a).z) ≡ given_line (given o a)
  unfolding given_line
  given-line Outcome.Passed = verdict-line a.verdict
  given-line (Outcome.Refused k d) = refl

given-detail : (o : Outcome) (a : Solved) → detail_of (given o a).outcome ≡ detail_of o
given-detail Outcome.Passed a = refl
given-detail (Outcome.Refused k d) a = refl

module _ (p n m : ℕ) (A : Compressed) (s : Set) (y : List ℕ) where
  factors-line : let g = answer_factors_of p n m A s y n m work_length in answer_line_of g.answer (filled n g.x) (filled m g.z) ≡ given_line g
  unfolding answer_factors_of
  factors-line = given-line n m (solve p n m s (vector y)) (solved-sized p n m s (vector y)) (question_after (check_factors_of p n m A s work_length) p n m y n m)

  factors-detail : (k : ℕ) → n ≤ k → length y ≤ k → detail_of (answer_factors_of p n m A s y n m work_length).outcome ≤ k
  unfolding answer_factors_of
  factors-detail k h g =
      let o = question_after (check_factors_of p n m A s work_length) p n m y n m in
      omega (arith, given-detail o (solve p n m s (vector y)), question-small k p n m A s h y n m work_length g)

-- ---- the call on beginnings of x and z

module _ (s : Stages) (A : Compressed) (h : Storage) (y x z : List ℕ) (d : Answerable s A h y x z) where
  abbrev p : ℕ
  p = s.reading.p

  abbrev n : ℕ
  n = s.reading.n

  abbrev m : ℕ
  m = s.reading.m

  abbrev plan : Compressed
  plan = held_plan s.reading A

  abbrev set : Set
  set = held_set s h

  pub x_fits : n ≤ length x
  x_fits = omega (arith, d.rows-small, d.x-length)

  pub z-fits : m ≤ length z
  z-fits = omega (arith, d.columns-small, d.z-length)

  pub x-part : length (take n x) ≡ n
  x-part = length-take-le n x x_fits

  pub z-part : length (take m z) ≡ m
  z-part = length-take-le m z z-fits

  module _ (a : Answer) (x' z' w' : List ℕ) (x-same : length x' ≡ length (take n x)) (z-same : length z' ≡ length (take m z))
      (got : Answers (answer_factors_of p n m plan set y (length (take n x)) (length (take m z)) (length h.work)) a (take n x) x' (take m z) z' h.work w') where
    held : Answers (held_answer s A h y) a (take n x) x' (take m z) z' h.work w'
    held =
        subst (λ (g : Given). Answers g a (take n x) x' (take m z) z' h.work w')
        (λ t. answer_factors_of p n m plan set y (x-part t) (z-part t) (d.work-length t)) got

    x-cut : take n (x' ++ drop n x) ≡ x'
    x-cut = take_at x' (drop n x) n (x-same ∙ x-part)

    z-cut : take m (z' ++ drop m z) ≡ z'
    z-cut = take_at z' (drop m z) m (z-same ∙ z-part)

    the-line : answer_line_of a (take n (x' ++ drop n x)) (take m (z' ++ drop m z)) ≡ given_line (held_answer s A h y)
    the-line =
        let g = held_answer s A h y in
        (λ t. answer_line_of (held.answer t) ((x-cut ∙ held.x-is ∙ ap (λ (k : ℕ). filled k g.x) x-part) t) ((z-cut ∙ held.z-is ∙ ap (λ (k : ℕ). filled k g.z) z-part) t))
        ∙ factors-line p n m plan set y

    pub answered : AnswerHeld (held_answer s A h y) a n m (x' ++ drop n x) (z' ++ drop m z) h.work w'
    answered =
        record {
          line-is = the-line;
          detail-small = omega (arith, held.detail, factors-detail p n m plan set y 2049 (omega (arith, d.rows-small)) d.few);
          cleared = held.cleared;
        }

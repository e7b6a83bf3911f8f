-- The parts of `answer` joined: each is ready where it is called, and what they leave is what `solve` gives.
use mathlib.Core.Path.{◌≡◌, refl, sym, ap, ◌∙◌}
use mathlib.Core.List.{List, ◌++◌}
use Prim.Native.Nat.{ℕ, ◌%◌, ◌≤◌, ◌<◌}
use native.Mathlib.Nat.{mod-eq_of_lt}
use native.Mathlib.Omega.{arith}
use lib.ListN.{length, take, drop}
use lib.Seq.{length-take-le}
use Rattle.lists.specs.Filled.{zeros}
use Rattle.algebra.specs.Sum.{δ}
use Rattle.algebra.specs.Matrix.{vector}
use Rattle.algebra.specs.Reduction.{reduced}
use Rattle.algebra.proofs.Reduction.{reduced-small}
use Rattle.sparse.specs.Row.{Below}
use Rattle.sparse.specs.Matrix.{matrix}
use Rattle.sparse.specs.Set.{Set}
use Rattle.pluq.proofs.Orders.{permutation-means}
use Rattle.row_space.specs.Substitution.{through_l, through_u}
use Rattle.row_space.specs.Solving.{residues}
use Rattle.row_space.specs.Solve.{multiples_of, remainder, lowest_of, solve}
use Rattle.row_space.specs.declared.Verdict.TheVariants.{Open, Closed}
use Rattle.answer_question.specs.Needs.{QuestionReady, OpenReady, ClosedReady, AnswerReady}
use Rattle.answer_question.specs.Reducing.{QuestionReduced}
use Rattle.answer_question.specs.Answering.{Opened, ClosedAs, Answered}
use Rattle.answer_question.proofs.AnswerLaws.{x-ext, solve-is-open, solve-is-closed, cleared, restored}

module _ (p : ℕ) (s : Set) (y x₀ z₀ w₀ : List ℕ) (d : AnswerReady p s y x₀ z₀ w₀) where
  abbrev n : ℕ
  n = length x₀

  abbrev m : ℕ
  m = length z₀

  pos : 0 < p
  pos = omega (arith, d.set.prime.two)

  pub row-part : length (take (length z₀) w₀) ≡ length z₀
  row-part = length-take-le (length z₀) w₀ d.room

  columns : Below m s.C
  columns i h = (permutation-means m s.C d.set.long-C d.set.columns).below i (omega (arith, d.set.long-C))

  pub answer-reduces : QuestionReady p s.r s.U s.C y z₀ (take (length z₀) w₀)
  answer-reduces =
      record {
        positive = pos;
        formed = rw row-part d.set.U-form;
        rows = omega (arith, d.set.long-U);
        order = omega (arith, d.set.rank-columns, d.set.long-C);
        places = rw row-part columns;
        room = d.set.rank-columns;
        long = d.long ∙ sym row-part;
        small = d.small;
      }

  module _ (z₁ part : List ℕ) (j : ℕ) (long-z : length z₁ ≡ length z₀) (long-part : length part ≡ length (take (length z₀) w₀))
      (t : QuestionReduced p (vector s.C) (matrix s.U) s.r (vector y) z₁ part j) where
    wide : length part ≡ m
    wide = long-part ∙ row-part

    -- the working row is all zero again
    pub row-again : part ++ drop (length z₀) w₀ ≡ w₀
    row-again = restored m w₀ part d.room d.clear wide t.row

    lowest-is : j ≡ lowest_of m (remainder p s (vector y))
    lowest-is = t.lowest ∙ ap (λ (i : ℕ). lowest_of i (remainder p s (vector y))) wide

    pub answer-closes : j < length z₀ → ClosedReady p s.r j s.U s.C z₁
    answer-closes h =
        record {
          prime = d.set.prime;
          formed = rw long-z d.set.U-form;
          rows = omega (arith, d.set.long-U);
          order = omega (arith, d.set.rank-columns, d.set.long-C);
          places = rw long-z columns;
          inside = omega arith;
        }

    pub answer-closed : (x₂ z₂ : List ℕ) → j < length z₀ → length x₂ ≡ length x₀
        → ClosedAs (through_u p (length z₁) s.r (vector s.C) (matrix s.U) (δ j)) x₂ z₂
        → Answered (solve p (length x₀) (length z₀) s (vector y)) Closed x₂ z₂ (part ++ drop (length z₀) w₀)
    answer-closed x₂ z₂ h long a =
        rw (solve-is-closed p n m s (vector y) j lowest-is h)
        (record {
          verdict = refl;
          x-is = a.x-is ∙ ap zeros long;
          z-is = a.z-is ∙ ap (λ (i : ℕ). through_u p i s.r (vector s.C) (matrix s.U) (δ j)) long-z;
          row = cleared (part ++ drop m w₀) (length w₀) (row-again ∙ d.clear);
        })

    inside : (k : ℕ) → k < s.r → vector s.C k < m
    inside k h = columns k (omega (arith, d.set.rank-columns, d.set.long-C))

    multiple-small : (k : ℕ) → k < s.r → reduced p (vector s.C) (matrix s.U) k (vector y) (vector s.C k) < p
    multiple-small k h =
        reduced-small p pos m s.r (vector s.C) (matrix s.U) inside (vector y) (λ j b. d.small j (omega (arith, d.long))) k (vector s.C k) (inside k h)

    pub rank-part : (s.r ≤ length (part ++ drop (length z₀) w₀)) × (length (take s.r (part ++ drop (length z₀) w₀)) ≡ s.r)
    rank-part =
        let h : s.r ≤ length (part ++ drop m w₀) = omega (arith, ap length row-again, d.set.rank-columns, d.room) in
        (h, length-take-le s.r (part ++ drop m w₀) h)

    pub answer-opens : OpenReady p s.L s.R x₀ z₁ (take s.r (part ++ drop (length z₀) w₀))
    answer-opens =
        let e = rank-part.1 in
        record {
          prime = d.set.prime;
          formed = rw e d.set.L-form;
          rows = omega (arith, e, d.set.long_L, d.set.rank-rows);
          shaped = rw e d.set.L-shape;
          order = d.set.rows;
          long = d.set.long-R;
          rank-rows = omega (arith, e, d.set.rank-rows);
          rank-columns = omega (arith, e, d.set.rank-columns);
          small = λ k h. let g : k < s.r = omega (arith, e) in rw (t.multiples k g) (multiple-small k g);
        }

    pub answer-opened : (x₂ z₂ part₂ : List ℕ) → length z₀ ≤ j → length z₂ ≡ length z₀ → length part₂ ≡ length (take s.r (part ++ drop (length z₀) w₀))
        → Opened (through_l p (length x₀) (length (take s.r (part ++ drop (length z₀) w₀))) (vector s.R) (matrix s.L) (residues p z₁)) x₂ z₂ part₂
        → Answered (solve p (length x₀) (length z₀) s (vector y)) Open x₂ z₂ (part₂ ++ drop s.r (part ++ drop (length z₀) w₀))
    answer-opened x₂ z₂ part₂ h long-z₂ long-part₂ a =
        rw (solve-is-open p n m s (vector y) j lowest-is h)
        (record {
          verdict = refl;
          x-is =
              a.x-is
              ∙ ap (λ (i : ℕ). through_l p n i (vector s.R) (matrix s.L) (residues p z₁)) rank-part.1
              ∙ x-ext n s.r (vector s.R) p (matrix s.L) (residues p z₁) (multiples_of p s (vector y))
              (λ l b. ap (λ (v : ℕ). v % p) (t.multiples l b) ∙ mod-eq_of_lt (multiple-small l b));
          z-is = a.z-is ∙ ap zeros long-z₂;
          row =
              cleared (part₂ ++ drop s.r (part ++ drop m w₀)) (length w₀)
              (restored s.r (part ++ drop m w₀) part₂ rank-part.0 (cleared (part ++ drop m w₀) (length w₀) (row-again ∙ d.clear)) (long-part₂ ∙ rank-part.1) a.row
              ∙ row-again ∙ d.clear);
        })

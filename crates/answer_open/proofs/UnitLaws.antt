-- The unit question of a pivot column, reduced by its row and the rows after it.
use mathlib.Core.Path.{◌≡◌, sym, ap, ◌∙◌}
use mathlib.Core.Bool.{Bool, cond}
use mathlib.Core.List.{List}
use Prim.Native.Nat.{ℕ, ◌+◌, ◌*◌, ◌%◌, ◌≤◌, ◌<◌}
use native.Mathlib.Nat.{mod-eq_of_lt}
use native.Mathlib.Omega.{arith}
use lib.ListN.{length, get_or, set, length-set}
use borrow.Author.Tests.{le-leb, lt-leb}
use Rattle.lists.specs.Filled.{zeros}
use Rattle.lists.proofs.Filled.{zeros-at}
use Rattle.algebra.specs.Sum.{δ}
use Rattle.algebra.specs.Matrix.{Vector, Matrix, vector}
use Rattle.algebra.specs.Reduction.{reduced}
use Rattle.algebra.proofs.Dot.{δ-other}
use Rattle.sparse.specs.Row.{Below}
use Rattle.sparse.specs.Matrix.{Compressed, matrix}
use Rattle.sparse.proofs.Subtraction.{below_set}
use Rattle.row_space.specs.Solving.{residues}
use Rattle.row_space.proofs.Substitutions.{δ-small}
use Rattle.answer_question.specs.Reducing.{Eliminated, Remains}
use Rattle.row_space.specs.Solve.{lowest_of}
use Rattle.answer_question.proofs.ReduceLoop.{reducing-turn, residue-cell, lowest-remains}
use Rattle.answer_question.proofs.AnswerLaws.{unit-cell, cleared}
use Rattle.answer_open.specs.Opening.{open_cell, PivotCell}
use Rattle.answer_open.specs.Needs.{EchelonPassed, ReduceFromReady, UnitReady}
use Rattle.answer_open.proofs.Kernel.{reduced-kept}
use Rattle.answer_open.proofs.PivotLaws.{order, pivot-inside}

-- ---- the loop: rows k to i - 1 are taken away

pub record Passing (p r : ℕ) (C : Vector) (U : Matrix) (k : ℕ) (w₀ w : List ℕ) (i : ℕ) : Type 0 where
  pub inside : i ≤ r
  pub long : length w ≡ length w₀
  pub below : Below (p * p) w
  pub carries : (y : Vector) → Remains p C U k y w₀ → Remains p C U i y w

pub passing-turn : (p r : ℕ) (C : Vector) (U : Compressed) (k : ℕ) (w₀ w w' : List ℕ) (i c v : ℕ) → 0 < p → i < r → c ≡ C i → c < length w
    → Eliminated p U i c w w' v → Passing p r C (matrix U) k w₀ w i → Passing p r C (matrix U) k w₀ w' (i + 1)
passing-turn p r C U k w₀ w w' i c v pos h ec hc t s =
    record {
      inside = omega arith;
      long = t.taken.long ∙ s.long;
      below = t.taken.below;
      carries = λ y e.
          (reducing-turn p C (matrix U) y w₀ w w' i c v pos ec hc t.value t.taken
          (record { long = s.long; below = s.below; remains = s.carries y e })).remains;
    }

pub passing-column : (p r : ℕ) (C : List ℕ) (U : Compressed) (k : ℕ) (w₀ w : List ℕ) (i c : ℕ) → EchelonPassed p r U C (length w₀) → i < r → c ≡ get_or C i 0
    → Passing p r (vector C) (matrix U) k w₀ w i → c < length w
passing-column p r C U k w₀ w i c f h e s = omega (arith, e, s.long, pivot-inside p r U C (length w₀) f i h)

-- ---- the unit question

module _ (p k r : ℕ) (U : Compressed) (C w₀ : List ℕ) (d : UnitReady p k r U C w₀) (j : ℕ) (ej : j ≡ get_or C k 0) where
  abbrev m : ℕ
  m = length w₀

  pub unit-inside : j < length w₀
  unit-inside = rw ej (pivot-inside p r U C m d.factor k d.inside)

  wide : length (set w₀ j 1) ≡ m
  wide = length-set w₀ j 1

  small : (t : ℕ) → t < m → δ j t < p
  small t h = δ-small p d.factor.prime.two j t

  pub unit-ready : ReduceFromReady p k r U C (set w₀ j 1)
  unit-ready =
      record {
        factor = rw wide d.factor;
        inside = omega (arith, d.inside);
        below =
            below_set (p * p) w₀ j 1
            (λ i h. rw (ap (λ (l : List ℕ). get_or l i 0) d.clear ∙ zeros-at m i) (residue-cell p 0 (omega (arith, d.factor.prime.two))))
            (residue-cell p 1 d.factor.prime.two);
      }

  -- the rows before row k leave it as it is
  kept : (t : ℕ) → t < m → reduced p (vector C) (matrix U) k (δ j) t ≡ δ j t
  kept =
      reduced-kept p m (vector C) (matrix U) (δ j) k
      (λ l h. (pivot-inside p r U C m d.factor l (omega (arith, d.inside)), δ-other j (get_or C l 0) (λ e. omega (arith, (order p r U C m d.factor).apart k l (omega (arith, d.inside, d.factor.rank)) (omega (arith, d.inside, d.factor.rank)) (sym ej ∙ e)))))
      small

  unit-starts : Remains p (vector C) (matrix U) k (δ j) (set w₀ j 1)
  unit-starts t h =
      let g : t < m = omega (arith, wide) in
      ap (λ (l : List ℕ). get_or (set l j 1) t 0 % p) d.clear
      ∙ ap (λ (x : ℕ). x % p) (unit-cell m j t unit-inside)
      ∙ mod-eq_of_lt (small t g)
      ∙ sym (kept t g)

  module _ (w₁ w₂ : List ℕ) (low : ℕ) (long : length w₁ ≡ length (set w₀ j 1))
      (carries : (y : Vector) → Remains p (vector C) (matrix U) k y (set w₀ j 1) → Remains p (vector C) (matrix U) r y w₁)
      (found : low ≡ lowest_of (length w₁) (residues p w₁)) (clear : w₂ ≡ zeros (length w₁)) where
    lowest-is : low ≡ lowest_of m (reduced p (vector C) (matrix U) r (δ (get_or C k 0)))
    lowest-is =
        found
        ∙ lowest-remains p (vector C) (matrix U) r (δ j) w₁ (carries (δ j) unit-starts)
        ∙ (λ i. lowest_of ((long ∙ wide) i) (reduced p (vector C) (matrix U) r (δ (ej i))))

    pub unit-closed : low < length w₀ → PivotCell (open_cell p (length w₀) (vector C) (matrix U) r (get_or C k 0)) 0 w₂
    unfolding open_cell
    unit-closed h =
        record {
          value = sym (ap (λ (b : Bool). cond b 1 0) (lt-leb m (lowest_of m (reduced p (vector C) (matrix U) r (δ (get_or C k 0)))) (omega (arith, lowest-is))));
          row = cleared w₂ (length w₁) clear;
        }

    pub unit-opened : length w₀ ≤ low → PivotCell (open_cell p (length w₀) (vector C) (matrix U) r (get_or C k 0)) 1 w₂
    unfolding open_cell
    unit-opened h =
        record {
          value = sym (ap (λ (b : Bool). cond b 1 0) (le-leb m (lowest_of m (reduced p (vector C) (matrix U) r (δ (get_or C k 0)))) (omega (arith, lowest-is))));
          row = cleared w₂ (length w₁) clear;
        }

-- What the steps of `contradict` come to: row i is taken away once from a working row of zeros, and the substitution through L gives w but for its 1.
use mathlib.Core.Path.{◌≡◌, refl, ap, ◌∙◌}
use mathlib.Core.Bool.{cond}
use mathlib.Core.List.{List}
use Prim.Native.Nat.{ℕ, ◌+◌, ◌-◌, ◌*◌, ◌%◌, ◌<◌}
use native.Mathlib.Nat.{zero-mod}
use native.Mathlib.Omega.{arith}
use lib.Dec.{eqb}
use lib.ListN.{length, get_or, set, length-set}
use Rattle.lists.proofs.Filled.{zeros-at}
use Rattle.lists.proofs.Tabulate.{length-tabulate, tabulate-at, tabulated}
use Rattle.algebra.specs.Sum.{place}
use Rattle.algebra.specs.Matrix.{Vector, vector}
use Rattle.sparse.specs.Matrix.{Compressed, matrix}
use Rattle.sparse.specs.Set.{Set}
use Rattle.sparse.specs.WorkingRow.{Subtracted, MatrixReady}
use Rattle.pluq.proofs.Orders.{permutation-means}
use Rattle.row_space.specs.Substitution.{put, back_l, through_l}
use Rattle.row_space.specs.Solving.{residues}
use Rattle.row_space.proofs.LowerLoop.{subtracted-less}
use Rattle.row_space.proofs.UpperLoop.{set-put}
use Rattle.column_space.specs.Slots.{left_kernel}
use Rattle.answer_question.proofs.AnswerLaws.{x-ext}
use Rattle.answer_question.proofs.ReduceLoop.{residue-cell}
use Rattle.answer_slots.specs.Solving.{left_kernel_from}
use Rattle.answer_slots.specs.Needs.{ContradictReady}

-- the definition of w, without the set
pub left-kernel-from : (p n : ℕ) (s : Set) (i : ℕ) → left_kernel p n s i ≡ left_kernel_from p n s.r (vector s.R) (matrix s.L) i
unfolding left_kernel
left-kernel-from p n s i = refl

module _ (p i : ℕ) (L : Compressed) (R w work : List ℕ) (d : ContradictReady p i L R w work) where
  abbrev n : ℕ
  n = length w

  abbrev r : ℕ
  r = length work

  -- the row that v L is to be
  abbrev negated : Vector
  negated l = ((p - 1) * matrix L i l) % p

  cell : (j : ℕ) → get_or work j 0 ≡ 0
  cell j = ap (λ (l : List ℕ). get_or l j 0) d.row ∙ zeros-at r j

  pub take-ready : MatrixReady p i 1 L work
  take-ready =
      record {
        formed = d.formed;
        inside = omega (arith, d.rows, d.inside);
        residue = d.prime.two;
        below = λ j h. residue-cell p (get_or work j 0) (omega (arith, cell j, d.prime.two));
      }

  -- the order gives position i a slot
  pub slot-inside : (t : ℕ) → t ≡ get_or R i 0 → t < n
  slot-inside t e = omega (arith, e, (permutation-means n R d.long d.order).below i d.inside)

  module _ (work₁ : List ℕ) (taken : Subtracted p (λ j. 1 * matrix L i j) work work₁) where
    is-negated : (l : ℕ) → l < r → residues p work₁ l ≡ negated l
    is-negated l h =
        subtracted-less p 1 (matrix L i) work work₁ l (omega (arith, d.prime.two)) h taken
        ∙ ap (λ (x : ℕ). x % p) (nothing (get_or work l 0 % p) ((p - 1) * matrix L i l) (ap (λ (x : ℕ). x % p) (cell l) ∙ zero-mod p))
      where
        nothing : (x y : ℕ) → x ≡ 0 → x + y ≡ y
        nothing x y e = omega arith

    module _ (w₁ : List ℕ) (solved : w₁ ≡ through_l p n (length work₁) (vector R) (matrix L) (residues p work₁)) where
      placed : w₁ ≡ through_l p n r (vector R) (matrix L) negated
      placed =
          solved
          ∙ ap (λ (k : ℕ). through_l p n k (vector R) (matrix L) (residues p work₁)) taken.long
          ∙ x-ext n r (vector R) p (matrix L) (residues p work₁) negated is-negated

      pub long-w : length w₁ ≡ n
      long-w = ap length placed ∙ length-tabulate n (place r (vector R) (back_l p (matrix L) r negated))

      pub contradicted : (t : ℕ) → t ≡ get_or R i 0 → set w₁ t 1 ≡ left_kernel_from p n r (vector R) (matrix L) i
      contradicted t e =
          tabulated n (put v (vector R i) 1) (set w₁ t 1) (length-set w₁ t 1 ∙ long-w)
          (λ j h. set-put w₁ t 1 j (omega (arith, slot-inside t e, long-w)) ∙ ap (λ (c : ℕ). put (vector w₁) c 1 j) e ∙ inner j h)
        where
          v : Vector
          v = place r (vector R) (back_l p (matrix L) r negated)

          inner : (j : ℕ) → j < n → put (vector w₁) (vector R i) 1 j ≡ put v (vector R i) 1 j
          inner j h = ap (λ (x : ℕ). cond (eqb j (vector R i)) 1 x) (ap (λ (l : List ℕ). get_or l j 0) placed ∙ tabulate-at n v j h)

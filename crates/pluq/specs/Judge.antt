-- The judgement of a set of factors of a stored matrix A (document 01's plan), in document 01's order.
--   agrees p m r A R L U i    A[R[i]][j] is the sum over k of L[i][k] U[k][j], modulo p, at all columns j
--   product_outcome            14 at the first position that does not agree
--   judge_factors              13, then 14
--   judge p n m A s           11, 12, 13, 14: passed, or refused by the first fault
--   Passes p n m A s          what must pass exactly: L and U are well formed, and s has the published shape and the product A
use Rattle.std.specs.Prelude.{ℕ, ◌%◌, ◌≡◌, Bool, true, leb, eqb}
use Rattle.lists.specs.Tests.{all, first}
use Rattle.refusals.specs.Table.{no_permutation, rank_too_large, bad_factors, product_differs}
use Rattle.refusals.specs.Refusals.{◌▷◌, unless}
use Rattle.refusals.specs.Outcome.{Outcome}
use Rattle.algebra.specs.Sum.{dot}
use Rattle.algebra.specs.Matrix.{Vector, Matrix, vector}
use Rattle.algebra.specs.Factors.{Factors}
use Rattle.sparse.specs.Matrix.{Compressed, matrix, form}
use Rattle.sparse.specs.Set.{Set}
use Rattle.pluq.specs.Order.{permutation}
use Rattle.pluq.specs.Shape.{lower, upper}

unfoldable pub agrees : (p m r : ℕ) (A : Matrix) (R : Vector) (L U : Matrix) → ℕ → Bool
agrees p m r A R L U i = all m (λ j. eqb (A (R i) j % p) (dot r (L i) (λ k. U k j) % p))

unfoldable pub product_outcome : ℕ → (ℕ → Bool) → Outcome
product_outcome n t = unless (leb n (first n t)) product_differs (first n t)

unfoldable pub judge_factors : (p n m : ℕ) → Compressed → Set → Outcome
judge_factors p n m A s =
    unless (form p s.r s.L) bad_factors 0
    ▷ unless (form p m s.U) bad_factors 0
    ▷ unless (lower s.r (matrix s.L)) bad_factors 0
    ▷ unless (upper s.r (vector s.C) (matrix s.U)) bad_factors 0
    ▷ product_outcome n (agrees p m s.r (matrix A) (vector s.R) (matrix s.L) (matrix s.U))

unfoldable pub judge : (p n m : ℕ) → Compressed → Set → Outcome
judge p n m A s =
    unless (permutation s.R) no_permutation 0
    ▷ unless (permutation s.C) no_permutation 0
    ▷ unless (leb s.r n) rank_too_large 0
    ▷ unless (leb s.r m) rank_too_large 0
    ▷ judge_factors p n m A s

pub record Passes (p n m : ℕ) (A : Compressed) (s : Set) : Type 0 where
  pub L-form : form p s.r s.L ≡ true
  pub U-form : form p m s.U ≡ true
  pub factors : Factors p n m s.r (matrix A) (vector s.R) (vector s.C) (matrix s.L) (matrix s.U)

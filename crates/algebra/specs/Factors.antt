-- PLUQ factors.
--   Factors p n m r A R C L U    R, C, L, U and r have the published shape, and their product is A (document 01, "Factors"):
--     rows, columns              R and C are permutations
--     rank-rows, rank-columns    r is at most n and at most m
--     L-above, L-diagonal        L[i][k] = 0 for k > i, and L[k][k] is not 0
--     U-left, U-unit             U[k][C[j]] = 0 for j < k, and U[k][C[k]] = 1
--     product                    A[R[i]][j] is the sum over k of L[i][k] U[k][j], modulo p
use Rattle.std.specs.Prelude.{◌≡◌, ℕ, ◌≤◌, ◌<◌}
use Rattle.algebra.specs.Congruence.{◌≈⟨◌⟩◌}
use Rattle.algebra.specs.Sum.{dot}
use Rattle.algebra.specs.Matrix.{Matrix, Permutation}

pub record Factors (p n m r : ℕ) (A : Matrix) (R C : ℕ → ℕ) (L U : Matrix) : Type 0 where
  pub rows : Permutation n R
  pub columns : Permutation m C
  pub rank-rows : r ≤ n
  pub rank-columns : r ≤ m
  pub L-above : (i k : ℕ) → i < k → k < r → L i k ≡ 0
  pub L-diagonal : (k : ℕ) → k < r → ¬ (L k k ≈⟨ p ⟩ 0)
  pub U-left : (k j : ℕ) → j < k → k < r → U k (C j) ≡ 0
  pub U-unit : (k : ℕ) → k < r → U k (C k) ≡ 1
  pub product : (i j : ℕ) → i < n → j < m → A (R i) j ≈⟨ p ⟩ dot r (L i) (λ k. U k j)

-- Independence and rank, modulo p.
--   Independent p m A s w    only the all-zero combination of the rows w 0, .., w (s - 1) of A is zero
--   Rank p n m A r           r is the greatest number of independent rows
use Rattle.std.specs.Prelude.{ℕ, ◌≤◌, ◌<◌}
use Rattle.algebra.specs.Congruence.{◌≈⟨◌⟩◌}
use Rattle.algebra.specs.Sum.{dot}
use Rattle.algebra.specs.Matrix.{Vector, Matrix, Distinct}

unfoldable pub Independent : (p m : ℕ) (A : Matrix) (s : ℕ) (w : ℕ → ℕ) → Type 0
Independent p m A s w =
    (c : Vector) → ((j : ℕ) → j < m → dot s c (λ a. A (w a) j) ≈⟨ p ⟩ 0) → (a : ℕ) → a < s → c a ≈⟨ p ⟩ 0

pub record Rank (p n m : ℕ) (A : Matrix) (r : ℕ) : Type 0 where
  pub rows : ℕ → ℕ
  pub distinct : Distinct r n rows
  pub independent : Independent p m A r rows
  pub greatest : (s : ℕ) (w : ℕ → ℕ) → Distinct s n w → Independent p m A s w → s ≤ r

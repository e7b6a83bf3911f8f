-- The row space and the kernel of a matrix, modulo p.
--   Combines p n m A y x      x A = y: the combination x of the n rows is y
--   InRowSpace p n m A y      some combination of the rows is y (document 01: the question y is open)
--   InKernel p n m A z        A z = 0
use Rattle.std.specs.Prelude.{ℕ, ◌<◌}
use Rattle.algebra.specs.Congruence.{◌≈⟨◌⟩◌}
use Rattle.algebra.specs.Sum.{dot}
use Rattle.algebra.specs.Matrix.{Vector, Matrix}

unfoldable pub Combines : (p n m : ℕ) (A : Matrix) (y x : Vector) → Type 0
Combines p n m A y x = (j : ℕ) → j < m → dot n x (λ i. A i j) ≈⟨ p ⟩ y j

unfoldable pub InRowSpace : (p n m : ℕ) (A : Matrix) (y : Vector) → Type 0
InRowSpace p n m A y = (x : Vector) × Combines p n m A y x

unfoldable pub InKernel : (p n m : ℕ) (A : Matrix) (z : Vector) → Type 0
InKernel p n m A z = (i : ℕ) → i < n → dot m (A i) z ≈⟨ p ⟩ 0

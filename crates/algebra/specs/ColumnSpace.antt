-- The column space and the left kernel of a matrix, modulo p.
--   transpose A                  A with rows and columns exchanged
--   GivesSlots p n m A h s       A s = h: the setting s gives the slot values h (document 02, slip 6)
--   InColumnSpace p n m A h      some setting gives the slot values h
--   InLeftKernel p n m A w       w A = 0
use Rattle.std.specs.Prelude.{ℕ, ◌<◌}
use Rattle.algebra.specs.Congruence.{◌≈⟨◌⟩◌}
use Rattle.algebra.specs.Sum.{dot}
use Rattle.algebra.specs.Matrix.{Vector, Matrix}

abbrev pub transpose : Matrix → Matrix
transpose A = λ j i. A i j

unfoldable pub GivesSlots : (p n m : ℕ) (A : Matrix) (h s : Vector) → Type 0
GivesSlots p n m A h s = (i : ℕ) → i < n → dot m (A i) s ≈⟨ p ⟩ h i

unfoldable pub InColumnSpace : (p n m : ℕ) (A : Matrix) (h : Vector) → Type 0
InColumnSpace p n m A h = (s : Vector) × GivesSlots p n m A h s

unfoldable pub InLeftKernel : (p n m : ℕ) (A : Matrix) (w : Vector) → Type 0
InLeftKernel p n m A w = (j : ℕ) → j < m → dot n w (λ i. A i j) ≈⟨ p ⟩ 0

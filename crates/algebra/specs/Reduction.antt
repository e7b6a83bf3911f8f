-- Reduction of a vector by the rows of U.
--   reduced p C U k y    y less multiples of rows 0 to k - 1 of U, in order: each takes the value at its own pivot column away
--   multiple p C U y k   the multiple of row k that is taken away
--   multiples p r C U y  the multiples of the first r rows, in order: a row of L
--   AllZero m w          every entry of w is 0
--   Lowest m w j         j is the lowest-numbered place at which w is not 0
use Rattle.std.specs.Prelude.{◌≡◌, ℕ, zero, suc, ◌+◌, ◌-◌, ◌*◌, ◌%◌, ◌<◌, List}
use Rattle.lists.specs.Tabulate.{tabulate}
use Rattle.algebra.specs.Matrix.{Vector, Matrix}

unfoldable pub reduced : (p : ℕ) (C : ℕ → ℕ) (U : Matrix) → ℕ → Vector → Vector
reduced p C U zero y = y
reduced p C U (suc k) y = λ j. (reduced p C U k y j + (p - reduced p C U k y (C k)) * U k j) % p

abbrev pub multiple : (p : ℕ) (C : ℕ → ℕ) (U : Matrix) → Vector → Vector
multiple p C U y k = reduced p C U k y (C k)

unfoldable pub multiples : (p r : ℕ) (C : ℕ → ℕ) (U : Matrix) → Vector → List ℕ
multiples p r C U y = tabulate r (multiple p C U y)

unfoldable pub AllZero : ℕ → Vector → Type 0
AllZero m w = (j : ℕ) → j < m → w j ≡ 0

pub record Lowest (m : ℕ) (w : Vector) (j : ℕ) : Type 0 where
  pub within : j < m
  pub here : ¬ (w j ≡ 0)
  pub before : (i : ℕ) → i < j → w i ≡ 0

-- The published shape of L and U, as tests of their cells.
--   lower_row r row k    row[k] is not 0, and row[l] is 0 for k < l < r
--   lower r L           this of rows 0 to r - 1 of L, so L[k][k] is not 0 and L[i][k] is 0 for k > i
--   upper_row C row k    row[C[k]] is 1, and row[C[j]] is 0 for j < k
--   upper r C U         this of rows 0 to r - 1 of U
use Rattle.std.specs.Prelude.{ℕ, Bool, not, ◌&&◌, ◌||◌, leb, eqb}
use Rattle.lists.specs.Tests.{all}
use Rattle.algebra.specs.Matrix.{Vector, Matrix}

unfoldable pub lower_row : ℕ → Vector → ℕ → Bool
lower_row r row k = not (eqb (row k) 0) && all r (λ l. leb l k || eqb (row l) 0)

unfoldable pub lower : ℕ → Matrix → Bool
lower r L = all r (λ k. lower_row r (L k) k)

unfoldable pub upper_row : Vector → Vector → ℕ → Bool
upper_row C row k = eqb (row (C k)) 1 && all k (λ j. eqb (row (C j)) 0)

unfoldable pub upper : ℕ → Vector → Matrix → Bool
upper r C U = all r (λ k. upper_row C (U k) k)

-- The kernel by its free columns (document 02, slip 7): every setting that fits.
--   free_columns m s              the columns that are no pivot columns, rising, whatever order C has them in (document 02's non-pivot words)
--   setting p m s c              the setting that is 1 at the free column c and 0 at the other free columns, and gives every slot 0
--   kernel_basis p m s            the settings of the free columns, one after another, m cells each
--   GiveAlike p n m A s t        the settings s and t give the same slots
--   Shifted p m d basis c s t    s is t and the combination c of the first d blocks of m cells of a list, modulo p
use Rattle.std.specs.Prelude.{ℕ, ◌+◌, ◌*◌, ◌<◌, get_or, take}
use mathlib.Core.List.{List, map, flatten}
use Rattle.lists.specs.Rest.{rest}
use Rattle.algebra.specs.Congruence.{◌≈⟨◌⟩◌}
use Rattle.algebra.specs.Sum.{dot, δ}
use Rattle.algebra.specs.Matrix.{Vector, Matrix, vector}
use Rattle.sparse.specs.Matrix.{matrix}
use Rattle.sparse.specs.Set.{Set}
use Rattle.row_space.specs.Substitution.{through_u}

unfoldable pub free_columns : ℕ → Set → List ℕ
free_columns m s = rest (take s.r s.C) m

unfoldable pub setting : (p m : ℕ) → Set → ℕ → List ℕ
setting p m s c = through_u p m s.r (vector s.C) (matrix s.U) (δ c)

unfoldable pub kernel_basis : (p m : ℕ) → Set → List ℕ
kernel_basis p m s = flatten (map (setting p m s) (free_columns m s))

unfoldable pub GiveAlike : (p n m : ℕ) (A : Matrix) (s t : Vector) → Type 0
GiveAlike p n m A s t = (i : ℕ) → i < n → dot m (A i) s ≈⟨ p ⟩ dot m (A i) t

unfoldable pub Shifted : (p m d : ℕ) → List ℕ → (c s t : Vector) → Type 0
Shifted p m d basis c s t = (j : ℕ) → j < m → s j ≈⟨ p ⟩ t j + dot d c (λ l. get_or basis (l * m + j) 0)

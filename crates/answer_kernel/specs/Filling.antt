-- The settings of the free columns, filled in one after another: what is marked, and what is left.
--   Marked xs w                a cell of w is not 0 exactly if its place is one of xs
--   column_settings p m r C U xs    the settings of the columns xs, one after another
--   free_settings p m r C U     those of the columns below m that are not among the first r of the order C, rising
--   block_of p m r C U c        the setting of the column c where it is one of them, nothing where it is a pivot column
--   BasisFilled bs b w         b is the list bs, and the working row is all zero
use Rattle.std.specs.Prelude.{ℕ, ◌<◌, ◌≡◌, true, false, cond, length, get_or, take}
use mathlib.Core.List.{List, [], ◌∷◌, map, flatten}
use Rattle.lists.specs.Filled.{zeros}
use Rattle.lists.specs.Rest.{rest}
use Rattle.lists.specs.Tests.{among}
use Rattle.algebra.specs.Sum.{δ}
use Rattle.algebra.specs.Matrix.{Vector, Matrix, vector}
use Rattle.sparse.specs.Matrix.{Compressed, matrix}
use Rattle.row_space.specs.Substitution.{through_u}

pub record Marked (xs w : List ℕ) : Type 0 where
  pub pivots : (c : ℕ) → c < length w → among c xs ≡ true → ¬ (get_or w c 0 ≡ 0)
  pub others : (c : ℕ) → c < length w → among c xs ≡ false → get_or w c 0 ≡ 0

unfoldable pub column_settings : (p m r : ℕ) (C : Vector) (U : Matrix) → List ℕ → List ℕ
column_settings p m r C U xs = flatten (map (λ c. through_u p m r C U (δ c)) xs)

unfoldable pub free_settings : (p m r : ℕ) (C : List ℕ) (U : Compressed) → List ℕ
free_settings p m r C U = column_settings p m r (vector C) (matrix U) (rest (take r C) m)

unfoldable pub block_of : (p m r : ℕ) (C : List ℕ) (U : Compressed) (c : ℕ) → List ℕ
block_of p m r C U c = column_settings p m r (vector C) (matrix U) (cond (among c (take r C)) [] (c ∷ []))

pub record BasisFilled (bs b w : List ℕ) : Type 0 where
  pub list : b ≡ bs
  pub row : w ≡ zeros (length w)

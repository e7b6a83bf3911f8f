-- The multiples that a reduction takes away, stored as a row of L while it goes on. The row may take the places up to `limit`.
--   EntryGathered p k c u x at ..   x times row k, which is u, is taken away, and x stored if it is not 0, unless there is no room
--   MultiplesGathered p m C U y ..  the multiples that are not 0 are stored and the remainder is left, unless they do not fit
use Rattle.std.specs.Prelude.{ℕ, ◌+◌, ◌≡◌, Bool, false, not, List, [], ◌∷◌, leb, length}
use Rattle.algebra.specs.Reduction.{multiples}
use Rattle.algebra.specs.Matrix.{Vector, vector}
use Rattle.sparse.specs.Matrix.{Compressed, matrix}
use Rattle.sparse.specs.Dense.{nonzeros}
use Rattle.sparse.specs.Storing.{DenseStored}
use Rattle.factor_reduce.specs.InPlace.{RemainderRow, MultipleTaken}

pub record EntryGathered (p k c : ℕ) (u : Vector) (x at limit : ℕ) (w₀ lc₀ lv₀ w lc lv : List ℕ) (over : Bool) (next : ℕ) : Type 0 where
  pub taken : MultipleTaken p c u w₀ w x
  pub fit : leb (at + length (nonzeros (x ∷ []))) limit ≡ not over
  pub stored : over ≡ false → DenseStored k at (x ∷ []) lc₀ lv₀ lc lv next

pub record MultiplesGathered (p m : ℕ) (C : List ℕ) (U : Compressed) (y : Vector) (l limit : ℕ) (lc₀ lv₀ lc lv w : List ℕ) (over : Bool) (next : ℕ) : Type 0 where
  pub fit : leb (l + length (nonzeros (multiples p (length C) (vector C) (matrix U) y))) limit ≡ not over
  pub stored : over ≡ false → DenseStored 0 l (multiples p (length C) (vector C) (matrix U) y) lc₀ lv₀ lc lv next
  pub remainder : over ≡ false → RemainderRow p m (length C) (vector C) (matrix U) y w

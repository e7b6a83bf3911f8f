-- A stored matrix as the search for pivots takes it.
--   RowWithin ss cols i    row i starts and ends within the stored columns
--   SmallMatrix p n m A    the matrix is in its form, with n rows and m columns, at most 2,048 of each: local lists have that length
use Rattle.std.specs.Prelude.{ℕ, ◌+◌, ◌≤◌, ◌<◌, ◌≡◌, true, List, length, get_or}
use Rattle.limits.specs.Limits.{largest_size}
use Rattle.sparse.specs.Matrix.{Compressed, form}

pub record RowWithin (ss cols : List ℕ) (i : ℕ) : Type 0 where
  pub inside : i + 1 < length ss
  pub rising : get_or ss i 0 ≤ get_or ss (i + 1) 0
  pub stored : get_or ss (i + 1) 0 ≤ length cols

pub record SmallMatrix (p n m : ℕ) (A : Compressed) : Type 0 where
  pub formed : form p m A ≡ true
  pub rows : length A.starts ≡ n + 1
  pub n-small : n ≤ largest_size
  pub m-small : m ≤ largest_size

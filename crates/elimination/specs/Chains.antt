-- Chains through pivots, and cycles (slip 9). `has i j` says that row i has an entry in column j.
--   Path has ps i j      a chain from row i to column j through pivots of ps: an entry, or an entry in a pivot's column and a chain from its row
--   Back has ps i j      a chain from row i through at least one pivot of ps to column j: the pair (i, j) would close a cycle
--   chain has ps i j     the test whether there is a Path
--   closes has ps i j    the test whether there is a way Back
use Rattle.std.specs.Prelude.{ℕ, ◌≡◌, Bool, true, false, ◌&&◌, ◌||◌, List, [], ◌∷◌}
use Rattle.elimination.specs.Structural.{Pair}
use Rattle.lists.specs.Members.{Member}

pub data Path (has : ℕ → ℕ → Bool) (ps : List Pair) : ℕ → ℕ → Type 0 where
  one : {i j : ℕ} → has i j ≡ true → Path has ps i j
  more : {i j : ℕ} (q : Pair) → Member q ps → has i q.column ≡ true → Path has ps q.row j → Path has ps i j

pub record Back (has : ℕ → ℕ → Bool) (ps : List Pair) (i j : ℕ) : Type 0 where
  pub by : Pair
  pub chosen : Member by ps
  pub leads : has i by.column ≡ true
  pub onward : Path has ps by.row j

module _ (has : ℕ → ℕ → Bool) where
  -- through the pivots after q alone, or once through q
  unfoldable pub chain : List Pair → ℕ → ℕ → Bool
  chain [] i j = has i j
  chain (q ∷ qs) i j = chain qs i j || (chain qs i q.column && chain qs q.row j)

  unfoldable pub closes : List Pair → ℕ → ℕ → Bool
  closes [] i j = false
  closes (q ∷ qs) i j = closes qs i j || (chain qs i q.column && chain qs q.row j)

-- The multiples of the rows of a block stored as the end of a row of L, and the row of U under its own columns.
--   EntryStored k x at limit ..       x is stored at column k and place `at`, unless it is 0 or there is no room
--   MultiplesStored s l limit xs ..   the multiples xs are stored from place l on, that of block row t at column s + t, zeros left out, unless they do not fit
--   ChosenStored at cs vs ..          the numbers of vs that are not 0 stand at place `at`, each under its column in cs; `next` is the place after them
--   LeftStored l limit cs vs ..       they do, unless they do not fit
--   RowScaled p c row r               r is the residues that the cells of `row` stand for, each times c
use Rattle.std.specs.Prelude.{ℕ, ◌+◌, ◌*◌, ◌%◌, ◌<◌, ◌≡◌, Bool, false, not, List, [], ◌∷◌, leb, length, get_or}
use Rattle.std.proofs.lemmas.List.Edits.{sets}
use Rattle.sparse.specs.Dense.{nonzeros}
use Rattle.sparse.specs.Storing.{DenseStored}
use Rattle.factor_dense.specs.Block.{where_nonzero}

pub record EntryStored (k x at limit : ℕ) (lc₀ lv₀ lc lv : List ℕ) (over : Bool) (next : ℕ) : Type 0 where
  pub fit : leb (at + length (nonzeros (x ∷ []))) limit ≡ not over
  pub stored : over ≡ false → DenseStored k at (x ∷ []) lc₀ lv₀ lc lv next

pub record MultiplesStored (s l limit : ℕ) (xs lc₀ lv₀ lc lv : List ℕ) (over : Bool) (next : ℕ) : Type 0 where
  pub fit : leb (l + length (nonzeros xs)) limit ≡ not over
  pub stored : over ≡ false → DenseStored s l xs lc₀ lv₀ lc lv next

pub record RowScaled (p c : ℕ) (row r : List ℕ) : Type 0 where
  pub long : length r ≡ 32
  pub cells : (l : ℕ) → l < 32 → get_or r l 0 ≡ c * (get_or row l 0 % p) % p
  pub below : (l : ℕ) → l < 32 → get_or r l 0 < p

pub record ChosenStored (at : ℕ) (cs vs lc₀ lv₀ lc lv : List ℕ) (next : ℕ) : Type 0 where
  pub place : next ≡ at + length (nonzeros vs)
  pub columns : lc ≡ sets lc₀ at (where_nonzero cs vs)
  pub values : lv ≡ sets lv₀ at (nonzeros vs)

pub record LeftStored (l limit : ℕ) (cs vs lc₀ lv₀ lc lv : List ℕ) (over : Bool) (next : ℕ) : Type 0 where
  pub fit : leb (l + length (nonzeros vs)) limit ≡ not over
  pub stored : over ≡ false → ChosenStored l cs vs lc₀ lv₀ lc lv next

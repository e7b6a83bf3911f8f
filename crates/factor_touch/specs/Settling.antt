-- The working row at the end of a reduction: each cell becomes the residue that it stands for, once, and is then stored.
--   SettleReady p touched w       a cell outside the marked blocks is 0
--   RowSettled p w₀ w count low   each cell is its residue; `count` are not 0, and `low` is the first of them, or the length
--   StoreSettledReady p c at ..   what storing the settled row times c needs
use Rattle.std.specs.Prelude.{ℕ, ◌*◌, ◌%◌, ◌≤◌, ◌<◌, ◌≡◌, List, eqb, length, get_or}
use Rattle.lists.specs.Tests.{first}
use Rattle.sparse.specs.Row.{Below}
use Rattle.sparse.specs.Dense.{nonzeros, scaled}
use Rattle.sparse.specs.Storing.{StoreReady}
use Rattle.factor_touch.specs.Touched.{cell_block, Covers}

pub record SettleReady (p : ℕ) (touched w : List ℕ) : Type 0 where
  pub positive : 0 < p
  pub blocks : length w ≤ 16 * length touched
  pub covers : Covers cell_block touched w

pub record RowSettled (p : ℕ) (w₀ w : List ℕ) (count low : ℕ) : Type 0 where
  pub long : length w ≡ length w₀
  pub cells : (j : ℕ) → get_or w j 0 ≡ get_or w₀ j 0 % p
  pub many : count ≡ length (nonzeros (scaled p 1 w₀))
  pub lowest : low ≡ first (length w₀) (λ j. eqb (get_or w₀ j 0 % p) 0)

pub record StoreSettledReady (p c at : ℕ) (touched w cols vals : List ℕ) : Type 0 where
  pub store : StoreReady p c at w cols vals
  pub blocks : length w ≤ 16 * length touched
  pub covers : Covers cell_block touched w
  pub below : Below p w

-- A row added to the working row where there is room: entry by entry, or as one run of cells where its columns are neighbours.
--   AddReady d cols vals w      as many values as columns, these are cells, and there is room for d times the entry in each cell
--   RowAdded d cols vals w₀ w   w is w₀ with d times the row's entry added to each cell
--   Neighbours p cols           p is below 2 ^ 16, and as many columns as there are lie from the first up to the last: none is left out between them
--   RunReady d vals w           as many values as cells, and room for d times each
--   Added d vals w₀ w           w is w₀ with d times the value added to each cell
--   FromReady d first vals w    the cells from `first` on are as many as the values, or more, and there is room for d times each
--   AddedFrom d first vals ..   d times the values are added to these cells, and no other is changed
use Rattle.std.specs.Prelude.{ℕ, ◌+◌, ◌-◌, ◌*◌, ◌^◌, ◌≤◌, ◌<◌, ◌≡◌, List, length, get_or}
use Rattle.sparse.specs.Row.{entry, Below}

pub record AddReady (d : ℕ) (cols vals w : List ℕ) : Type 0 where
  pub paired : length cols ≡ length vals
  pub inside : Below (length w) cols
  pub room : (j : ℕ) → j < length w → get_or w j 0 + d * entry cols vals j < 2 ^ 64

pub record RowAdded (d : ℕ) (cols vals w₀ w : List ℕ) : Type 0 where
  pub long : length w ≡ length w₀
  pub sums : (j : ℕ) → j < length w₀ → get_or w j 0 ≡ get_or w₀ j 0 + d * entry cols vals j

pub record Neighbours (p : ℕ) (cols : List ℕ) : Type 0 where
  pub small : p < 65536
  pub some : 0 < length cols
  pub ends : get_or cols (length cols - 1) 0 + 1 ≡ get_or cols 0 0 + length cols

pub record RunReady (d : ℕ) (vals w : List ℕ) : Type 0 where
  pub paired : length vals ≡ length w
  pub room : (t : ℕ) → t < length w → get_or w t 0 + d * get_or vals t 0 < 2 ^ 64

pub record Added (d : ℕ) (vals w₀ w : List ℕ) : Type 0 where
  pub long : length w ≡ length w₀
  pub sums : (t : ℕ) → t < length w₀ → get_or w t 0 ≡ get_or w₀ t 0 + d * get_or vals t 0

pub record FromReady (d first : ℕ) (vals w : List ℕ) : Type 0 where
  pub inside : first + length vals ≤ length w
  pub room : (t : ℕ) → t < length vals → get_or w (first + t) 0 + d * get_or vals t 0 < 2 ^ 64

pub record AddedFrom (d first : ℕ) (vals w₀ w : List ℕ) : Type 0 where
  pub long : length w ≡ length w₀
  pub left : (j : ℕ) → j < first → get_or w j 0 ≡ get_or w₀ j 0
  pub sums : (t : ℕ) → t < length vals → get_or w (first + t) 0 ≡ get_or w₀ (first + t) 0 + d * get_or vals t 0
  pub right : (t : ℕ) → get_or w (first + (length vals + t)) 0 ≡ get_or w₀ (first + (length vals + t)) 0

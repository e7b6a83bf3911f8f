-- The search for the next pivot at whose column the working row is not 0.
--   pivot_cell C w k                   the cell of the working row at the column of pivot k
--   PivotMarks pending C w            the columns are columns of the row; where the block of a pivot is not marked its cell is 0
--   PivotCellsReady C w from end      the cells of the pivots from `from` up to `end` can be looked at
--   PivotPassable pending C w k       the cell of pivot k is 0, and can be passed over with those after it
--   PivotSearchReady pending C w ..   what the search from pivot `from` on needs
use Rattle.std.specs.Prelude.{ℕ, ◌*◌, ◌^◌, ◌≤◌, ◌<◌, ◌≡◌, List, length, get_or}
use Rattle.sparse.specs.Row.{Below}
use Rattle.factor_touch.specs.Searching.{marks_of}

abbrev pub pivot_cell : List ℕ → List ℕ → ℕ → ℕ
pivot_cell C w k = get_or w (get_or C k 0) 0

pub record PivotMarks (pending C w : List ℕ) : Type 0 where
  pub columns : Below (length w) C
  pub few : length C ≤ 2 ^ 32
  pub blocks : length C ≤ 16 * length pending
  pub covers : (k : ℕ) → k < length C → marks_of pending k ≡ 0 → pivot_cell C w k ≡ 0

pub record PivotCellsReady (C w : List ℕ) (from end : ℕ) : Type 0 where
  pub inside : from ≤ end
  pub ends : end ≤ length C
  pub columns : Below (length w) C

pub record PivotPassable (pending C w : List ℕ) (k : ℕ) : Type 0 where
  pub marks : PivotMarks pending C w
  pub inside : k < length C
  pub here : pivot_cell C w k ≡ 0

pub record PivotSearchReady (pending C w : List ℕ) (from : ℕ) : Type 0 where
  pub marks : PivotMarks pending C w
  pub inside : from ≤ length C

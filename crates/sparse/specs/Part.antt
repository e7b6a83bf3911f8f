-- The rows of a stored matrix as parts of its lists.
--   HasRow k h      row k starts and ends within the lists
--   PartOf k h r    the row r is row k of the matrix
use Rattle.std.specs.Prelude.{ℕ, ◌+◌, ◌≤◌, ◌<◌, ◌≡◌, length, get_or}
use Rattle.sparse.specs.declared.stored.SparseRow.{SparseRow}
use Rattle.sparse.specs.Matrix.{Compressed, row_of}

pub record HasRow (k : ℕ) (h : Compressed) : Type 0 where
  pub inside : k + 1 < length h.starts
  pub ordered : get_or h.starts k 0 ≤ get_or h.starts (k + 1) 0
  pub columns : get_or h.starts (k + 1) 0 ≤ length h.cols
  pub values : get_or h.starts (k + 1) 0 ≤ length h.vals

pub record PartOf (k : ℕ) (h : Compressed) (r : SparseRow) : Type 0 where
  pub cols : r.cols ≡ row_of h.starts k h.cols
  pub vals : r.vals ≡ row_of h.starts k h.vals

-- Rows of a matrix that are kept once more, cell by cell, in one list of copies.
--   CopyAt p m u at low copies         the row u of m cells is 0 before column `low`, and its other cells stand in the list from place `at` on; p is below 2 ^ 16
--   RowCopy p m u k copies             so it is of row k, unless place k says that it has no copy
--   CopiedRows p r m U copies          so it is of the first r rows of U
--   CopyTakeReady p k c M copies w     c times row k of a stored matrix can be taken away, by way of its copy where it has one
--   CopyKept p m u at low fill copies  a copy that stands before place `fill`
--   Keeping p r m U fill copies        the first r rows of U are copied before place `fill`, those that are; nothing is after it, and no later row has a copy
--   HoldReady p r found m fill M ..    row r of a stored matrix can be copied, where it is the last of `found`
--   RowHeld p r found m fill M ..      then the first `found` rows are kept, before place `next`, where the first r were
use Rattle.std.specs.Prelude.{ℕ, ◌+◌, ◌-◌, ◌^◌, ◌≤◌, ◌<◌, ◌≡◌, List, length, get_or}
use Rattle.algebra.specs.Matrix.{Vector, Matrix}
use Rattle.sparse.specs.Row.{Row}
use Rattle.sparse.specs.Matrix.{Compressed, matrix, row_of}
use Rattle.sparse.specs.WorkingRow.{GrowMatrixReady}

-- ---- copies that are read

pub record CopyAt (p m : ℕ) (u : Vector) (at low : ℕ) (copies : List ℕ) : Type 0 where
  pub small : p < 65536
  pub wide : low ≤ m
  pub inside : at + (m - low) ≤ length copies
  pub left : (j : ℕ) → j < low → u j ≡ 0
  pub right : (t : ℕ) → low + t < m → get_or copies (at + t) 0 ≡ u (low + t)

pub record RowCopy (p m : ℕ) (u : Vector) (k : ℕ) (copies : List ℕ) : Type 0 where
  pub row : k < 2048
  pub long : 4096 ≤ length copies
  pub copy : ¬ (get_or copies k 0 ≡ 0) → CopyAt p m u (get_or copies k 0) (get_or copies (2048 + k) 0) copies

abbrev pub CopiedRows : ℕ → ℕ → ℕ → Matrix → List ℕ → Type 0
CopiedRows p r m U copies = (k : ℕ) → k < r → RowCopy p m (U k) k copies

pub record CopyTakeReady (p k c : ℕ) (M : Compressed) (copies w : List ℕ) : Type 0 where
  pub grow : GrowMatrixReady p k c M w
  pub copy : RowCopy p (length w) (matrix M k) k copies

-- ---- copies that are made

pub record CopyKept (p m : ℕ) (u : Vector) (at low fill : ℕ) (copies : List ℕ) : Type 0 where
  pub copy : CopyAt p m u at low copies
  pub begins : 4096 ≤ at
  pub ends : at + (m - low) ≤ fill

pub record Keeping (p r m : ℕ) (U : Matrix) (fill : ℕ) (copies : List ℕ) : Type 0 where
  pub many : r ≤ 2048
  pub low : 4096 ≤ fill
  pub room : fill ≤ length copies
  pub clear : (i : ℕ) → fill ≤ i → get_or copies i 0 ≡ 0
  pub later : (k : ℕ) → r ≤ k → k < 2048 → get_or copies k 0 ≡ 0
  pub each : (k : ℕ) → k < r → ¬ (get_or copies k 0 ≡ 0) → CopyKept p m (U k) (get_or copies k 0) (get_or copies (2048 + k) 0) fill copies

pub record HoldReady (p r found m fill : ℕ) (M : Compressed) (copies : List ℕ) : Type 0 where
  pub grown : (r ≤ found) × (found ≤ r + 1)
  pub many : found ≤ 2048
  pub narrow : m ≤ 2048
  pub low : 4096 ≤ fill
  pub room : fill ≤ length copies
  pub small : length copies < 2 ^ 32
  pub starts : r < found → r + 1 < length M.starts
  pub lies : r < found → (get_or M.starts r 0 ≤ get_or M.starts (r + 1) 0) × ((get_or M.starts (r + 1) 0 ≤ length M.cols) × (get_or M.starts (r + 1) 0 ≤ length M.vals))
  pub row : r < found → Row p m (row_of M.starts r M.cols) (row_of M.starts r M.vals)

abbrev pub RowHeld : ℕ → ℕ → ℕ → ℕ → ℕ → Compressed → List ℕ → List ℕ → ℕ → Type 0
RowHeld p r found m fill M copies₀ copies next = (U : Matrix) → (r < found → (j : ℕ) → U r j ≡ matrix M r j) → Keeping p r m U fill copies₀ → Keeping p found m U next copies

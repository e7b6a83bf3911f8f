-- What taking a row in the block needs.
--   CellsReady width js w                 the first columns of js are inside the working row
--   TakeReady p t c block row             row t of the block can be taken away from the row c times
--   BlockReduceReady p b ks block row     the row can be reduced by the first b rows of the block; ks has the place of each row's pivot
--   PlaceReady k at limit lc lv           an entry at column k can be stored at place `at`, if that is below the limit
--   StoreMultiplesReady s b l limit ..    the first b numbers of a block row of multiples can be stored, that of row t at column s + t
--   LeftReady width l limit js ..         the first cells of a block row can be stored under the columns js
--   LeftRowReady p i s first l ..         row i can be reduced by the first s rows of U, which have `first` entries, and its cells at the columns js copied
--   DenseLowerReady p s b next ..         cells can be reduced by the first b rows of the block, and the multiples stored from place `next` on
--   DenseUpperReady p r k at next ..      cells that are not 0 at place k can be stored as row r of U, and that value as an entry of L
--   DenseReady p i s first r at ..        row i can be taken in the block: by r rows of U with `at` entries, of which the block holds those after the first s
use Rattle.std.specs.Prelude.{ℕ, ◌+◌, ◌-◌, ◌*◌, ◌%◌, ◌^◌, ◌≤◌, ◌<◌, ◌≡◌, List, length, get_or, take}
use Rattle.algebra.specs.Prime.{Prime}
use Rattle.algebra.specs.Matrix.{vector}
use Rattle.sparse.specs.Row.{Below}
use Rattle.sparse.specs.Matrix.{Compressed, matrix}
use Rattle.factor_reduce.specs.Needs.{RoomTo}
use Rattle.factor_row.specs.Gathering.{cut}
use Rattle.factor_row.specs.Entries.{EntryLists}
use Rattle.factor_row.specs.Needs.{GatherReadyFrom, ListsReady}
use Rattle.factor_dense.specs.Block.{cells_of, LeftColumns, BlockHolds, Upper}

-- ---- in the block

pub record CellsReady (width : ℕ) (js w : List ℕ) : Type 0 where
  pub rows : width ≤ 32
  pub inside : (l : ℕ) → l < width → get_or js l 0 < length w

pub record TakeReady (p t c : ℕ) (block : List (List ℕ)) (row : List ℕ) : Type 0 where
  pub place : t < 32
  pub residue : c < p
  pub cells : (l : ℕ) → l < 32 → cells_of block t l < p
  pub below : Below (p * p) row

pub record BlockReduceReady (p b : ℕ) (ks : List ℕ) (block : List (List ℕ)) (row : List ℕ) : Type 0 where
  pub positive : 0 < p
  pub rows : b ≤ 32
  pub places : (t : ℕ) → t < b → get_or ks t 0 < 32
  pub cells : (t l : ℕ) → t < b → l < 32 → cells_of block t l < p
  pub below : Below (p * p) row

-- ---- stored

pub record PlaceReady (k at limit : ℕ) (lc lv : List ℕ) : Type 0 where
  pub narrow : k < 2 ^ 32
  pub lists : RoomTo at limit lc lv

pub record StoreMultiplesReady (s b l limit : ℕ) (lc lv : List ℕ) : Type 0 where
  pub rows : b ≤ 32
  pub narrow : s + b ≤ 2 ^ 32
  pub lists : RoomTo l limit lc lv

pub record LeftReady (width l limit : ℕ) (js lc lv : List ℕ) : Type 0 where
  pub rows : width ≤ 32
  pub narrow : (t : ℕ) → t < width → get_or js t 0 < 2 ^ 32
  pub lists : RoomTo l limit lc lv

-- ---- the turn

pub record LeftRowReady (p i s first l total : ℕ) (A : Compressed) (columns us uc uv js : List ℕ) (width : ℕ) (w lc lv : List ℕ) : Type 0 where
  pub row : GatherReadyFrom p i s first l total A columns us uc uv w lc lv
  pub narrow : width ≤ 32
  pub inside : (k : ℕ) → k < width → get_or js k 0 < length w

pub record DenseLowerReady (p s b next limit : ℕ) (ks : List ℕ) (block : List (List ℕ)) (row lc lv : List ℕ) : Type 0 where
  pub reduce : BlockReduceReady p b ks block row
  pub store : StoreMultiplesReady s b next limit lc lv

pub record DenseUpperReady (p r k at next limit sum width : ℕ) (js row : List ℕ) (e : EntryLists) : Type 0 where
  pub prime : Prime p
  pub place : k < width
  pub narrow : width ≤ 32
  pub here : ¬ (get_or row k 0 % p ≡ 0)
  pub columns : (t : ℕ) → t < width → get_or js t 0 < 2 ^ 32
  pub rank : r < 2 ^ 32
  pub few : sum ≤ length e.lc
  pub lower : RoomTo next limit e.lc e.lv
  pub upper : RoomTo at (length e.uc) e.uc e.uv

pub record DenseReady (p i s first r at l total : ℕ) (A : Compressed) (columns us js : List ℕ) (width : ℕ) (ks : List ℕ) (block : List (List ℕ)) (w : List ℕ) (e : EntryLists) : Type 0 where
  pub prime : Prime p
  pub low : s ≤ r
  pub rows : r < s + 32
  pub narrow : width ≤ 32
  pub ranked : r ≤ length columns
  pub row : GatherReadyFrom p i s first l total A columns us e.uc e.uv w e.lc e.lv
  pub lists : ListsReady (length w) r at l total e
  pub same : (k j : ℕ) → k < s → matrix (cut s first us e.uc e.uv) k j ≡ matrix (cut r at us e.uc e.uv) k j
  pub upper : Upper p (length w) r (vector (take r columns)) (matrix (cut r at us e.uc e.uv))
  pub left : LeftColumns (length w) s (vector (take r columns)) width (vector js)
  pub holds : BlockHolds s (r - s) width (vector js) (vector ks) (vector (take r columns)) (matrix (cut r at us e.uc e.uv)) block

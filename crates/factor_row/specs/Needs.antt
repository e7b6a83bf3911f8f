-- What taking a row needs.
--   RowLoadable p i A w                         row i of the matrix can be loaded: the matrix has its form, and the working row is all zero
--   RowReduceReady p i A C U w                  row i can be loaded and reduced by the rows of U, as many as there are pivot columns
--   GatherRowReady p i l total A C U w ..       row i can be reduced, and its multiples stored at place l, where L has `total` entries so far
--   GatherReadyFrom p i r at l total A ..       the same by r rows of U with `at` entries, of lists that are not cut
--   ListsReady m r at l total e                 r rows of U with `at` entries so far, `total` entries of L, the next of L at place l: all in the lists
--   PivotReady p c r at l total w e             the working row is not 0 at column c
--   PivotCopyReady p m c r at l total ..        the stored row has m columns and is not 0 at column c
--   PairReady p i c r at l total A w e          row i can be taken as it stands, with its pivot column c
--   OtherReady p i r at l total A ..            row i can be reduced by the rows of U and taken
use Rattle.std.specs.Prelude.{ℕ, ◌+◌, ◌%◌, ◌^◌, ◌≤◌, ◌<◌, ◌≡◌, true, List, length, get_or, take}
use Rattle.lists.specs.Filled.{zeros}
use Rattle.algebra.specs.Prime.{Prime}
use Rattle.sparse.specs.Row.{entry, Row}
use Rattle.sparse.specs.Matrix.{Compressed, form, matrix}
use Rattle.factor_reduce.specs.Needs.{EchelonReady}
use Rattle.factor_row.specs.Gathering.{cut}
use Rattle.factor_row.specs.Entries.{EntryLists}

-- ---- a row is loaded and reduced

pub record RowLoadable (p i : ℕ) (A : Compressed) (w : List ℕ) : Type 0 where
  pub formed : form p (length w) A ≡ true
  pub inside : i + 1 < length A.starts
  pub clear : w ≡ zeros (length w)

pub record RowReduceReady (p i : ℕ) (A : Compressed) (C : List ℕ) (U : Compressed) (w : List ℕ) : Type 0 where
  pub row : RowLoadable p i A w
  pub upper : EchelonReady p (length C) C U w

pub record GatherRowReady (p i l total : ℕ) (A : Compressed) (C : List ℕ) (U : Compressed) (w lc lv : List ℕ) : Type 0 where
  pub row : RowReduceReady p i A C U w
  pub narrow : length C ≤ 2 ^ 32
  pub paired : length lc ≡ length lv
  pub place : l ≤ total
  pub room : total ≤ length lc

pub record GatherReadyFrom (p i r at l total : ℕ) (A : Compressed) (columns us uc uv w lc lv : List ℕ) : Type 0 where
  pub rank : r ≤ length columns
  pub starts : r + 1 ≤ length us
  pub entries : (at ≤ length uc) × (at ≤ length uv)
  pub row : GatherRowReady p i l total A (take r columns) (cut r at us uc uv) w lc lv

-- ---- it becomes a pivot row

pub record ListsReady (m r at l total : ℕ) (e : EntryLists) : Type 0 where
  pub narrow : m ≤ 2 ^ 32
  pub rank : r < 2 ^ 32
  pub L-paired : length e.lc ≡ length e.lv
  pub U-paired : length e.uc ≡ length e.uv
  pub L-place : l ≤ total
  pub L-room : total ≤ length e.lc
  pub U-room : at ≤ length e.uc

pub record PivotReady (p c r at l total : ℕ) (w : List ℕ) (e : EntryLists) : Type 0 where
  pub prime : Prime p
  pub column : c < length w
  pub here : ¬ (get_or w c 0 % p ≡ 0)
  pub lists : ListsReady (length w) r at l total e

pub record PivotCopyReady (p m c r at l total : ℕ) (cols vals : List ℕ) (e : EntryLists) : Type 0 where
  pub prime : Prime p
  pub row : Row p m cols vals
  pub column : c < m
  pub here : ¬ (entry cols vals c ≡ 0)
  pub lists : ListsReady m r at l total e

-- ---- it is taken

pub record PairReady (p i c r at l total : ℕ) (A : Compressed) (w : List ℕ) (e : EntryLists) : Type 0 where
  pub prime : Prime p
  pub row : RowLoadable p i A w
  pub column : c < length w
  pub here : ¬ (matrix A i c ≡ 0)
  pub lists : ListsReady (length w) r at l total e

pub record OtherReady (p i r at l total : ℕ) (A : Compressed) (columns us w : List ℕ) (e : EntryLists) : Type 0 where
  pub prime : Prime p
  pub row : GatherReadyFrom p i r at l total A columns us e.uc e.uv w e.lc e.lv
  pub lists : ListsReady (length w) r at l total e

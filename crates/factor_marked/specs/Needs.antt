-- What taking a row needs where the blocks that it touches are marked.
--   PivotOf r C j                            j is the column of a pivot, one of C[0] to C[r - 1]
--   Placed r C place m                       `place` gives each of m columns the number of its pivot, those of C[0] to C[r - 1], and 2048 where it is none
--   NoteRowReady full k starts cols ..       the columns of row k of a stored matrix can be marked
--   MultipleReady p k c U x place ..         x times row k of U, which is 1 at column c, can be taken away, and its columns marked
--   PivotStepReady p k c U at limit ..       the same, and the multiple can be stored at place `at`
--   MarkedGatherReady p C U l limit ..       the row can be reduced by all rows of U, as many as there are pivot columns, and the multiples stored from place l on
--   MarkedRowReady p i l total A C U ..      row i of the matrix can be loaded and reduced so
--   MarkedRowFrom p i r at l total A ..      the same by r rows of U with `at` entries, of lists that are not cut
--   SettledPivotReady p c n r at l ..        the settled working row, with n cells that are not 0, is not 0 at column c
--   RemainderReady p r at l total ..         what remains in the working row can be settled and taken
--   MarkedReady p i r at l total A ..        row i can be reduced by the rows of U and taken; the working row has 2048 cells at most
use Rattle.std.specs.Prelude.{ℕ, ◌+◌, ◌*◌, ◌^◌, ◌≤◌, ◌<◌, ◌≡◌, Bool, true, List, length, get_or}
use Rattle.algebra.specs.Prime.{Prime}
use Rattle.sparse.specs.Row.{Below}
use Rattle.sparse.specs.Matrix.{Compressed, form, matrix, row_of}
use Rattle.sparse.specs.Dense.{nonzeros, scaled}
use Rattle.factor_touch.specs.Touched.{cell_block, Covers, NoteReady}
use Rattle.factor_reduce.specs.Needs.{RoomTo, GatherReady}
use Rattle.factor_row.specs.Entries.{EntryLists}
use Rattle.factor_row.specs.Needs.{GatherRowReady, GatherReadyFrom, ListsReady, PivotReady, OtherReady}
use Rattle.factor_marked.specs.Marking.{cell_bound, Marks}

pub record PivotOf (r : ℕ) (C : List ℕ) (j : ℕ) : Type 0 where
  pub pivot : ℕ
  pub inside : pivot < r
  pub column : get_or C pivot 0 ≡ j

pub record Placed (r : ℕ) (C place : List ℕ) (m : ℕ) : Type 0 where
  pub long : m ≤ length place
  pub inside : (j : ℕ) → j < m → get_or place j 0 ≤ 2048
  pub pivots : (k : ℕ) → k < r → get_or place (get_or C k 0) 0 ≡ k
  pub only : (j : ℕ) → j < m → ¬ (get_or place j 0 ≡ 2048) → PivotOf r C j

-- ---- a row of U is marked and taken away

pub record NoteRowReady (full : Bool) (k : ℕ) (starts cols place touched pending : List ℕ) : Type 0 where
  pub inside : k + 1 < length starts
  pub lies : (get_or starts k 0 ≤ get_or starts (k + 1) 0) × (get_or starts (k + 1) 0 ≤ length cols)
  pub note : NoteReady full (row_of starts k cols) place touched pending

pub record MultipleReady (p k c : ℕ) (U : Compressed) (place touched pending w : List ℕ) (full : Bool) : Type 0 where
  pub positive : 0 < p
  pub formed : form p (length w) U ≡ true
  pub inside : k + 1 < length U.starts
  pub column : c < length w
  pub few : k < 2 ^ 32
  pub unit : matrix U k c ≡ 1
  pub below : Below (cell_bound p k) w
  pub narrow : length w ≤ 2048
  pub long : length w ≤ length place
  pub places : (j : ℕ) → j < length w → get_or place j 0 ≤ 2048
  pub marks : Marks place touched pending w full

pub record PivotStepReady (p k c : ℕ) (U : Compressed) (at limit : ℕ) (place touched pending w lc lv : List ℕ) (full : Bool) : Type 0 where
  pub step : MultipleReady p k c U place touched pending w full
  pub lists : RoomTo at limit lc lv

-- ---- by all rows of U

pub record MarkedGatherReady (p : ℕ) (C : List ℕ) (U : Compressed) (l limit : ℕ) (place touched pending w lc lv : List ℕ) (full : Bool) : Type 0 where
  pub rows : GatherReady p C U l limit w lc lv
  pub placed : Placed (length C) C place (length w)
  pub narrow : length w ≤ 2048
  pub marks : Marks place touched pending w full

-- ---- a row of the matrix

pub record MarkedRowReady (p i l total : ℕ) (A : Compressed) (C : List ℕ) (U : Compressed) (place touched w lc lv : List ℕ) : Type 0 where
  pub row : GatherRowReady p i l total A C U w lc lv
  pub placed : Placed (length C) C place (length w)
  pub narrow : length w ≤ 2048
  pub blocks : length touched ≡ 129

pub record MarkedRowFrom (p i r at l total : ℕ) (A : Compressed) (columns us uc uv place touched w lc lv : List ℕ) : Type 0 where
  pub row : GatherReadyFrom p i r at l total A columns us uc uv w lc lv
  pub placed : Placed r columns place (length w)
  pub narrow : length w ≤ 2048
  pub blocks : length touched ≡ 129

-- ---- it is taken

pub record SettledPivotReady (p c n r at l total : ℕ) (touched w : List ℕ) (e : EntryLists) : Type 0 where
  pub pivot : PivotReady p c r at l total w e
  pub many : n ≡ length (nonzeros (scaled p 1 w))
  pub blocks : length w ≤ 16 * length touched
  pub covers : Covers cell_block touched w
  pub below : Below p w

pub record RemainderReady (p r at l total : ℕ) (touched w : List ℕ) (e : EntryLists) : Type 0 where
  pub prime : Prime p
  pub blocks : length w ≤ 16 * length touched
  pub covers : Covers cell_block touched w
  pub lists : ListsReady (length w) r at l total e

pub record MarkedReady (p i r at l total : ℕ) (A : Compressed) (columns us place w : List ℕ) (e : EntryLists) : Type 0 where
  pub other : OtherReady p i r at l total A columns us w e
  pub placed : Placed r columns place (length w)
  pub narrow : length w ≤ 2048

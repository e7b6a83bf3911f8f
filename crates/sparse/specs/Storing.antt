-- Rows on their way between storage and the working row.
--   LoadReady p cols vals w          what loading a sparse row needs: the working row is all zero
--   DotReady p cols vals z           what the product of a sparse row and a vector z needs
--   Room at row cols vals            the lists have room for the entries of a dense row from place `at` on
--   DenseStored j at row ..          the entries of a dense row, its columns counted from j, stand at place `at`; `next` is the place after them
--   StoreReady p c at w cols vals    what storing the working row times c needs
--   RowStored p c at w₀ ..           the working row times c is stored, and is cleared
use Rattle.std.specs.Prelude.{ℕ, ◌+◌, ◌^◌, ◌≤◌, ◌<◌, ◌≡◌, List, length}
use Rattle.std.proofs.lemmas.List.Edits.{sets}
use Rattle.lists.specs.Filled.{zeros}
use Rattle.sparse.specs.Row.{Below, Row}
use Rattle.sparse.specs.Dense.{columns_from, nonzeros, scaled}

pub record LoadReady (p : ℕ) (cols vals w : List ℕ) : Type 0 where
  pub row : Row p (length w) cols vals
  pub clear : w ≡ zeros (length w)

pub record DotReady (p : ℕ) (cols vals z : List ℕ) : Type 0 where
  pub positive : 0 < p
  pub row : Row p (length z) cols vals
  pub below : Below p z

pub record Room (at : ℕ) (row cols vals : List ℕ) : Type 0 where
  pub fits : at + length (nonzeros row) ≤ length cols
  pub paired : length cols ≡ length vals

pub record DenseStored (j at : ℕ) (row cols₀ vals₀ cols vals : List ℕ) (next : ℕ) : Type 0 where
  pub place : next ≡ at + length (nonzeros row)
  pub columns : cols ≡ sets cols₀ at (columns_from j row)
  pub values : vals ≡ sets vals₀ at (nonzeros row)

pub record StoreReady (p c at : ℕ) (w cols vals : List ℕ) : Type 0 where
  pub residue : c < p
  pub narrow : length w ≤ 2 ^ 32
  pub room : Room at (scaled p c w) cols vals

pub record RowStored (p c at : ℕ) (w₀ cols₀ vals₀ w cols vals : List ℕ) (next : ℕ) : Type 0 where
  pub stored : DenseStored 0 at (scaled p c w₀) cols₀ vals₀ cols vals next
  pub cleared : w ≡ zeros (length w₀)

-- What the comparison of the product needs; each fact is known from the tests before it. A row of A or of L comes as its
-- columns and values, the rows of U by their starts.
--   CombinesRows ..     r rows of U, and a sparse row that says how often each is taken
--   ComparesRow ..      these, and a working row that is 0 outside the columns of a row of A
--   Comparable ..       a matrix A and a set whose orders and storage passed, and a working row that is all zero
--   ComparesMultiple .. two sparse rows, and the residue that the second is multiplied by
--   NamesRows ..        A and a set as far as position i needs them: the row of A that R names, L's row i, the rows of U
--   StartsRise ..       no row start is less than the one before
--   RowsInside ..       the rows lie inside the list of columns, and each column is below a width: the form, without the values
--   CountsRows ..       rows of U, by number, to count their entries
--   SweepsRow ..        columns that are cells of the working row
--   SweepsRows ..       rows of U, by number, whose columns are cells of the working row
--   ClearsTouched ..    those rows of U and the columns of a row of A, and a working row that is 0 outside their columns
use Rattle.std.specs.Prelude.{ℕ, ◌+◌, ◌-◌, ◌*◌, ◌^◌, ◌≤◌, ◌<◌, ◌≡◌, true, List, length, get_or}
use Rattle.lists.specs.Filled.{zeros}
use Rattle.sparse.specs.Row.{Below, Row}
use Rattle.sparse.specs.Matrix.{Compressed, row_of, form}
use Rattle.check_product.specs.Sweep.{Among, AmongRows}

pub record CombinesRows (p r : ℕ) (ks vs : List ℕ) (U : Compressed) (w : List ℕ) : Type 0 where
  pub positive : 0 < p
  pub row : Row p r ks vs
  pub U-form : form p (length w) U ≡ true
  pub U-rows : length U.starts ≡ r + 1
  pub narrow : r ≤ 2 ^ 32
  pub below : Below (p * p) w

pub record ComparesRow (p r : ℕ) (cols ks vs : List ℕ) (U : Compressed) (w : List ℕ) : Type 0 where
  pub combines : CombinesRows p r ks vs U w
  pub cells : Below (length w) cols
  pub others : (j : ℕ) → j < length w → (Among cols j → ⊥) → get_or w j 0 ≡ 0

pub record Comparable (p n r : ℕ) (A : Compressed) (R : List ℕ) (L U : Compressed) (w : List ℕ) : Type 0 where
  pub positive : 0 < p
  pub A-form : form p (length w) A ≡ true
  pub A-rows : length A.starts ≡ n + 1
  pub order : length R ≡ n
  pub inside : Below n R
  pub L-form : form p r L ≡ true
  pub L-rows : length L.starts ≡ n + 1
  pub U-form : form p (length w) U ≡ true
  pub U-rows : length U.starts ≡ r + 1
  pub narrow : r ≤ 2 ^ 32
  pub cleared : w ≡ zeros (length w)

pub record ComparesMultiple (p c : ℕ) (cols vals cols' vals' : List ℕ) : Type 0 where
  pub paired : length cols ≡ length vals
  pub paired' : length cols' ≡ length vals'
  pub residue : c < p
  pub below : Below p vals'

pub record NamesRows (p r i : ℕ) (A : Compressed) (R : List ℕ) (L U : Compressed) : Type 0 where
  pub width : ℕ
  pub A-form : form p width A ≡ true
  pub A-row : get_or R i 0 + 1 < length A.starts
  pub order : i < length R
  pub L-form : form p r L ≡ true
  pub L-row : i + 1 < length L.starts
  pub U-form : form p width U ≡ true
  pub U-rows : length U.starts ≡ r + 1

abbrev pub StartsRise : List ℕ → Type 0
StartsRise starts = (k : ℕ) → k + 1 < length starts → get_or starts k 0 ≤ get_or starts (k + 1) 0

pub record RowsInside (width : ℕ) (starts cols : List ℕ) : Type 0 where
  pub rise : StartsRise starts
  pub end : (k : ℕ) → k + 1 < length starts → get_or starts (k + 1) 0 ≤ length cols
  pub row : (k : ℕ) → Below width (row_of starts k cols)

pub record CountsRows (ks Us : List ℕ) : Type 0 where
  pub rows : Below (length Us - 1) ks
  pub U-rise : StartsRise Us

pub record SweepsRow (p : ℕ) (cols w : List ℕ) : Type 0 where
  pub positive : 0 < p
  pub cells : Below (length w) cols

pub record SweepsRows (p : ℕ) (ks Us Uc w : List ℕ) : Type 0 where
  pub positive : 0 < p
  pub rows : Below (length Us - 1) ks
  pub U-rows : RowsInside (length w) Us Uc

pub record ClearsTouched (p : ℕ) (cols ks Us Uc w : List ℕ) : Type 0 where
  pub product : SweepsRows p ks Us Uc w
  pub own : SweepsRow p cols w
  pub others : (j : ℕ) → j < length w → (AmongRows ks Us Uc j → ⊥) → (Among cols j → ⊥) → get_or w j 0 ≡ 0

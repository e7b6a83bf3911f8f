-- The search for structural pivots. The working row has a cell for each column, which names the row chosen for it so far.
--   row_in x                      the row that a cell names: none where it is 0, else one less than it
--   RowStarts ss i               row i is one of the rows that start at ss, and its start is not past its end
--   PreferReady ss i x           the rows up to i are such, and the cell x names none or one before i
--   Preferred ss i x y           y is the cell after row i, which leads at its column, where x was the cell before
--   Chosen A i w                 the cells of w name the rows chosen among the first i
--   ChooseReady p n A w          what the choice among the n rows of A needs
--   ConsiderReady p i A w        what considering row i needs: the cells name the rows chosen before it
--   PairsFound n m A s R C w     the s structural pivots of A are in the orders R and C, which are 0 past them; the working row is cleared
use Rattle.std.specs.Prelude.{ℕ, zero, suc, ◌+◌, ◌≤◌, ◌<◌, ◌≡◌, true, List, length, get_or}
use Rattle.std.proofs.Math.Option.{Option, none, some}
use Rattle.lists.specs.Filled.{zeros, filled}
use Rattle.sparse.specs.Matrix.{Compressed, form}
use Rattle.elimination.specs.Structural.{prefer, chosen}
use Rattle.elimination.specs.Selection.{structural}
use Rattle.elimination.specs.Pairs.{pair_rows, pair_columns}

abbrev pub row_in : ℕ → Option ℕ
row_in zero = none
row_in (suc i) = some i

-- ---- the choice

pub record RowStarts (ss : List ℕ) (i : ℕ) : Type 0 where
  pub inside : i + 1 < length ss
  pub rising : get_or ss i 0 ≤ get_or ss (i + 1) 0

pub record PreferReady (ss : List ℕ) (i x : ℕ) : Type 0 where
  pub rows : (k : ℕ) → k ≤ i → RowStarts ss k
  pub before : x ≤ i

pub record Preferred (ss : List ℕ) (i x y : ℕ) : Type 0 where
  pub below : y ≤ i + 1
  pub row : (A : Compressed) → A.starts ≡ ss → row_in y ≡ prefer A i (row_in x)

pub record Chosen (A : Compressed) (i : ℕ) (w : List ℕ) : Type 0 where
  pub below : (c : ℕ) → get_or w c 0 ≤ i
  pub rows : (c : ℕ) → c < length w → row_in (get_or w c 0) ≡ chosen A c i

pub record ChooseReady (p n : ℕ) (A : Compressed) (w : List ℕ) : Type 0 where
  pub formed : form p (length w) A ≡ true
  pub rows : length A.starts ≡ n + 1
  pub clear : w ≡ zeros (length w)

pub record ConsiderReady (p i : ℕ) (A : Compressed) (w : List ℕ) : Type 0 where
  pub formed : form p (length w) A ≡ true
  pub inside : i + 1 < length A.starts
  pub before : Chosen A i w

-- ---- the pairs

pub record PairsFound (n m : ℕ) (A : Compressed) (s : ℕ) (R C w : List ℕ) : Type 0 where
  pub count : s ≡ length (structural A n m)
  pub rows : R ≡ filled n (pair_rows (structural A n m))
  pub columns : C ≡ filled m (pair_columns (structural A n m))
  pub cleared : w ≡ zeros m

-- A row that is reduced by the rows of U where the blocks that it touches are marked.
--   residues p w                     the residues that the cells of the working row stand for
--   cell_bound p k                    the bound of the cells after k rows of U, each of which may add to it
--   Marks place touched pending ..   what is not marked is 0, in blocks of cells whose columns are no pivots and in blocks of pivots; `full` says that all blocks are marked
--   StillZero u w₀ w                 a cell that is 0 stays 0 where u is 0
--   MultipleMarked p k c u ..        x times row k, which is u, is taken away, cell c is 0, and the columns of the row are marked
--   PivotMarked p k c u ..           the same, and the multiple is stored, unless it is 0 or there is no room
--   MultiplesMarked p C U ..         the multiples are stored and the remainder is left, unless they do not fit; a cell outside the marked blocks is 0
--   RowMarked p l total t ..         the same of a row of the matrix, with the row of L that it gives
--   lowest p w                       the first cell that stands for another residue than 0, or the length
--   RemainderTaken p r at l next ..  what remains is stored as a pivot row with its column, or nothing remains and all is left as it is, with the working row all zero
use Rattle.std.specs.Prelude.{ℕ, ◌+◌, ◌*◌, ◌%◌, ◌<◌, ◌≡◌, Bool, true, false, List, eqb, length, get_or}
use Rattle.lists.specs.Filled.{zeros}
use Rattle.lists.specs.Tabulate.{tabulate}
use Rattle.lists.specs.Tests.{first}
use Rattle.algebra.specs.Matrix.{Vector}
use Rattle.sparse.specs.Row.{Below}
use Rattle.sparse.specs.Matrix.{Compressed}
use Rattle.sparse.specs.WorkingRow.{growth}
use Rattle.factor_touch.specs.Touched.{cell_block, free_block, pivot_block, Covers, AllMarked}
use Rattle.factor_reduce.specs.InPlace.{MultipleTaken}
use Rattle.factor_reduce.specs.Gathering.{EntryGathered, MultiplesGathered}
use Rattle.factor_reduce.specs.declared.gather.Gathered.{Gathered}
use Rattle.factor_row.specs.declared.pivot_row.Step.{Step}
use Rattle.factor_row.specs.Gathering.{Reduction, RowGathered}
use Rattle.factor_row.specs.Entries.{EntryLists}
use Rattle.factor_row.specs.PivotRow.{PivotOutcome}

unfoldable pub residues : ℕ → List ℕ → List ℕ
residues p w = tabulate (length w) (λ j. get_or w j 0 % p)

unfoldable pub cell_bound : ℕ → ℕ → ℕ
cell_bound p k = p * p + k * growth p

pub record Marks (place touched pending w : List ℕ) (full : Bool) : Type 0 where
  pub cells : Covers (free_block place) touched w
  pub pivots : Covers (pivot_block place) pending w
  pub cell-blocks : length touched ≡ 129
  pub pivot-blocks : length pending ≡ 129
  pub all : full ≡ true → AllMarked touched × AllMarked pending

abbrev pub StillZero : Vector → List ℕ → List ℕ → Type 0
StillZero u w₀ w = (j : ℕ) → j < length w₀ → u j ≡ 0 → get_or w₀ j 0 ≡ 0 → get_or w j 0 ≡ 0

pub record MultipleMarked (p k c : ℕ) (u : Vector) (place w₀ touched pending w : List ℕ) (x : ℕ) (full : Bool) : Type 0 where
  pub taken : MultipleTaken p c u (residues p w₀) (residues p w) x
  pub below : Below (cell_bound p (k + 1)) w
  pub cleared : get_or w c 0 ≡ 0
  pub still : StillZero u w₀ w
  pub marks : Marks place touched pending w full

pub record PivotMarked (p k c : ℕ) (u : Vector) (at limit : ℕ) (place w₀ lc₀ lv₀ touched pending w lc lv : List ℕ) (over : Bool) (next : ℕ) (full : Bool) : Type 0 where
  pub entry : EntryGathered p k c u (get_or (residues p w₀) c 0 % p) at limit (residues p w₀) lc₀ lv₀ (residues p w) lc lv over next
  pub below : Below (cell_bound p (k + 1)) w
  pub cleared : get_or w c 0 ≡ 0
  pub still : StillZero u w₀ w
  pub marks : Marks place touched pending w full

pub record MultiplesMarked (p : ℕ) (C : List ℕ) (U : Compressed) (l limit : ℕ) (w₀ lc₀ lv₀ touched w lc lv : List ℕ) (g : Gathered) : Type 0 where
  pub gathered : MultiplesGathered p (length w₀) C U (λ j. get_or w₀ j 0 % p) l limit lc₀ lv₀ lc lv (residues p w) g.over g.next
  pub covers : g.over ≡ false → Covers cell_block touched w

pub record RowMarked (p l total : ℕ) (t : Reduction) (lc₀ lv₀ touched lc lv w : List ℕ) (g : Gathered) : Type 0 where
  pub gathered : RowGathered p l total t lc₀ lv₀ lc lv (residues p w) g
  pub covers : g.over ≡ false → Covers cell_block touched w

abbrev pub lowest : ℕ → List ℕ → ℕ
lowest p w = first (length w) (λ j. eqb (get_or w j 0 % p) 0)

pub record RemainderTaken (p r at l next total : ℕ) (w₀ : List ℕ) (e₀ : EntryLists) (w : List ℕ) (e : EntryLists) (s : Step) : Type 0 where
  pub none : lowest p w₀ ≡ length w₀ → (s ≡ record { over = false; column = lowest p w₀; at = at; l = l; total = total }) × ((e ≡ e₀) × (w ≡ zeros (length w₀)))
  pub some : ¬ (lowest p w₀ ≡ length w₀) → (s.column ≡ lowest p w₀) × PivotOutcome p (lowest p w₀) r at next total (residues p w₀) e₀ w e s

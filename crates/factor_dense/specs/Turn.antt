-- One row of the matrix that has no structural pivot, taken in the block: reduced by the first s rows of U in the working row, then by those that the
-- block holds. What it comes to is what taking it in the working row alone comes to.
--   dense_step_of over column at ..     what a turn came to, from its parts
--   LeftRowFound p l total t ..       the multiples are stored at place l, the cells stand for what remains at the columns js, and the working row is cleared,
--                                     unless they do not fit
--   LowerFound p s b next limit ..    cells are reduced by the first b rows of the block, and the multiples stored from place `next` on, unless they do not fit
--   UpperFound p r k at next ..       cells that are not 0 at place k are stored as row r of U, and that value as an entry of L, unless they do not fit; the block row
--                                     that is given is the cells divided by their value at place k
--   NextRow p m width js w c ..       row r of U in the block: its cells at the columns js, 0 past them, and the place of its pivot column c
--   DenseTaken p at l total t ..      the row is taken as in the working row alone (RowFound), and where it is a pivot row, its block row is given
use Rattle.std.specs.Prelude.{ℕ, ◌+◌, ◌*◌, ◌%◌, ◌≤◌, ◌<◌, ◌≡◌, Bool, false, not, ◌&&◌, List, [], ◌∷◌, leb, length, get_or, take}
use Rattle.algebra.specs.Reduction.{multiples}
use Rattle.lists.specs.Filled.{zeros}
use Rattle.algebra.specs.Matrix.{Vector, vector}
use Rattle.residue.specs.Inverse.{inv_mod}
use Rattle.sparse.specs.Row.{Below}
use Rattle.sparse.specs.Dense.{nonzeros}
use Rattle.sparse.specs.Storing.{DenseStored}
use Rattle.factor_reduce.specs.InPlace.{RemainderRow}
use Rattle.factor_row.specs.Gathering.{Reduction}
use Rattle.factor_row.specs.Entries.{EntryLists}
use Rattle.factor_row.specs.Taking.{next_upper_row, RowFound}
use Rattle.factor_dense.specs.declared.taking.LeftRow.{LeftRow}
use Rattle.factor_dense.specs.declared.taking.DenseStep.{DenseStep}
use Rattle.factor_dense.specs.Block.{cells_of}
use Rattle.factor_dense.specs.Taking.{residues_of}
use Rattle.factor_dense.specs.Storing.{MultiplesStored, RowScaled, ChosenStored}

abbrev pub dense_step_of : Bool → (column at l total place : ℕ) → List ℕ → DenseStep
dense_step_of over column at l total place row = record { step = record { over = over; column = column; at = at; l = l; total = total }; place = place; row = row }

-- ---- reduced by the first s rows of U

pub record LeftRowFound (p l total : ℕ) (t : Reduction) (width : ℕ) (js lc₀ lv₀ lc lv work : List ℕ) (d : LeftRow) : Type 0 where
  pub fit : leb (total + length (nonzeros t.multiples)) (length lc₀) ≡ not d.over
  pub stored : d.over ≡ false → DenseStored 0 l t.multiples lc₀ lv₀ lc lv d.next
  pub cells : d.over ≡ false → (k : ℕ) → k < width → get_or d.row k 0 % p ≡ t.remainder (get_or js k 0)
  pub past : (k : ℕ) → width ≤ k → get_or d.row k 0 ≡ 0
  pub below : d.over ≡ false → Below (p * p) d.row
  pub long : length d.row ≡ 32
  pub clear : work ≡ zeros t.width

-- ---- reduced by the rows of the block

pub record LowerFound (p s b next limit : ℕ) (ks : List ℕ) (block : List (List ℕ)) (row₀ lc₀ lv₀ lc lv : List ℕ) (d : LeftRow) : Type 0 where
  pub taken : MultiplesStored s next limit (multiples p b (vector ks) (cells_of block) (residues_of p row₀)) lc₀ lv₀ lc lv d.over d.next
  pub remainder : RemainderRow p 32 b (vector ks) (cells_of block) (residues_of p row₀) d.row

-- ---- stored as a row of U

pub record UpperFound (p r k at next limit sum width : ℕ) (js row : List ℕ) (e₀ e : EntryLists) (d : DenseStep) : Type 0 where
  pub scaled : RowScaled p (inv_mod p (get_or row k 0 % p)) row d.row
  pub fit : (leb (next + 1) limit && leb (at + length (nonzeros (take width d.row))) (length e₀.uc)) ≡ not d.step.over
  pub lower : d.step.over ≡ false → DenseStored r next (get_or row k 0 % p ∷ []) e₀.lc e₀.lv e.lc e.lv d.step.l
  pub upper : d.step.over ≡ false → ChosenStored at (take width js) (take width d.row) e₀.uc e₀.uv e.uc e.uv d.step.at
  pub column : d.step.column ≡ get_or js k 0
  pub count : d.step.total ≡ sum + 1
  pub place : d.place ≡ k

-- ---- the whole turn

pub record NextRow (p m width : ℕ) (js : List ℕ) (w : Vector) (c place : ℕ) (row : List ℕ) : Type 0 where
  pub within : place < width
  pub pivot : get_or js place 0 ≡ c
  pub cells : (k : ℕ) → k < width → get_or row k 0 ≡ get_or (next_upper_row p m c w) (get_or js k 0) 0
  pub past : (k : ℕ) → width ≤ k → get_or row k 0 ≡ 0

pub record DenseTaken (p at l total : ℕ) (t : Reduction) (width : ℕ) (js : List ℕ) (e₀ e : EntryLists) (work : List ℕ) (d : DenseStep) : Type 0 where
  pub taken : RowFound p at l total t e₀ e work d.step
  pub next : d.step.over ≡ false → d.step.column < t.width → NextRow p t.width width js t.remainder d.step.column d.place d.row

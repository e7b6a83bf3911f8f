-- One row of the matrix is taken: it becomes a pivot row or is dependent, unless its entries do not fit.
--   next_upper_row p m c w              w divided by its value at column c: the next row of U
--   next_lower_row t                    the multiples and then what remains at the pivot column: the row of L of a pivot row
--   PivotFound p at l total t ..      something remains: the row of L is stored at place l, and the row of U at place `at`
--   DependentFound at l total t ..    nothing remains: the row of L is the multiples; it is counted, and stands at place l
--   RowFound p at l total t ..        the one or the other, as the pivot column says
use Rattle.std.specs.Prelude.{ℕ, ◌+◌, ◌*◌, ◌%◌, ◌≤◌, ◌<◌, ◌≡◌, false, not, ◌&&◌, List, [], ◌∷◌, ◌++◌, leb, length}
use Rattle.lists.specs.Filled.{zeros}
use Rattle.lists.specs.Tabulate.{tabulate}
use Rattle.algebra.specs.Matrix.{Vector}
use Rattle.residue.specs.Inverse.{inv_mod}
use Rattle.sparse.specs.Dense.{nonzeros}
use Rattle.sparse.specs.Storing.{DenseStored}
use Rattle.factor_row.specs.declared.pivot_row.Step.{Step}
use Rattle.factor_row.specs.Gathering.{Reduction}
use Rattle.factor_row.specs.Entries.{EntryLists}

unfoldable pub next_upper_row : ℕ → ℕ → ℕ → Vector → List ℕ
next_upper_row p m c w = tabulate m (λ j. inv_mod p (w c) * w j % p)

abbrev pub next_lower_row : Reduction → List ℕ
next_lower_row t = t.multiples ++ (t.remainder t.column ∷ [])

pub record PivotFound (p at l total : ℕ) (t : Reduction) (e₀ e : EntryLists) (s : Step) : Type 0 where
  pub fit : (leb (total + length (nonzeros (next_lower_row t))) (length e₀.lc) && leb (at + length (nonzeros (next_upper_row p t.width t.column t.remainder))) (length e₀.uc)) ≡ not s.over
  pub lower : s.over ≡ false → DenseStored 0 l (next_lower_row t) e₀.lc e₀.lv e.lc e.lv s.l
  pub upper : s.over ≡ false → DenseStored 0 at (next_upper_row p t.width t.column t.remainder) e₀.uc e₀.uv e.uc e.uv s.at
  pub count : s.over ≡ false → s.total ≡ total + length (nonzeros (next_lower_row t))

pub record DependentFound (at l total : ℕ) (t : Reduction) (e₀ e : EntryLists) (s : Step) : Type 0 where
  pub fit : leb (total + length (nonzeros t.multiples)) (length e₀.lc) ≡ not s.over
  pub lower : s.over ≡ false → DenseStored 0 l t.multiples e₀.lc e₀.lv e.lc e.lv (l + length (nonzeros t.multiples))
  pub upper : s.over ≡ false → (e.uc ≡ e₀.uc) × (e.uv ≡ e₀.uv)
  pub place : s.over ≡ false → (s.at ≡ at) × (s.l ≡ l)
  pub count : s.over ≡ false → s.total ≡ total + length (nonzeros t.multiples)

pub record RowFound (p at l total : ℕ) (t : Reduction) (e₀ e : EntryLists) (work : List ℕ) (s : Step) : Type 0 where
  pub pivot : t.column < t.width → PivotFound p at l total t e₀ e s
  pub dependent : t.width ≤ t.column → DependentFound at l total t e₀ e s
  pub column : s.over ≡ false → s.column ≡ t.column
  pub clear : s.over ≡ false → work ≡ zeros t.width

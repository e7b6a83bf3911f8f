-- A row of the matrix that was loaded can be reduced.
use mathlib.Core.Path.{◌≡◌, ap, ◌∙◌}
use mathlib.Core.List.{List}
use Prim.Native.Nat.{ℕ, ◌+◌, ◌%◌, ◌≤◌, ◌<◌}
use native.Mathlib.Nat.{mod-eq_of_lt}
use native.Mathlib.Omega.{arith}
use lib.ListN.{length, get_or}
use Rattle.lists.specs.Tabulate.{tabulate}
use Rattle.lists.proofs.Tabulate.{length-tabulate, tabulate-at}
use Rattle.sparse.specs.Matrix.{Compressed, matrix}
use Rattle.sparse.proofs.Rows.{form-row, form-starts, form-paired, form-below}
use Rattle.sparse.proofs.DenseSteps.{loaded-below}
use Rattle.factor_reduce.specs.Needs.{EchelonReady}
use Rattle.factor_row.specs.Needs.{RowLoadable, RowReduceReady}

-- where row i of the matrix lies in the lists
module _ (p i : ℕ) (A : Compressed) (w : List ℕ) (h : RowLoadable p i A w) where
  pub row-starts : (get_or A.starts i 0 ≤ get_or A.starts (i + 1) 0) × (get_or A.starts (i + 1) 0 ≤ length A.cols)
  row-starts = form-starts p (length w) A.starts A.cols A.vals h.formed i h.inside

  pub row-paired : length A.cols ≡ length A.vals
  row-paired = form-paired p (length w) A.starts A.cols A.vals h.formed

module _ (p i : ℕ) (A : Compressed) (C : List ℕ) (U : Compressed) (w : List ℕ) (h : RowReduceReady p i A C U w) (w₁ : List ℕ) (e : w₁ ≡ tabulate (length w) (matrix A i)) where
  pub loaded-long : length w₁ ≡ length w
  loaded-long = ap length e ∙ length-tabulate (length w) (matrix A i)

  positive : 0 < p
  positive = h.upper.positive

  -- the cells stand for the row
  pub loaded-cell : (j : ℕ) → j < length w₁ → get_or w₁ j 0 % p ≡ matrix A i j
  loaded-cell j b =
      ap (λ (l : List ℕ). get_or l j 0 % p) e
      ∙ ap (λ (x : ℕ). x % p) (tabulate-at (length w) (matrix A i) j (omega (arith, loaded-long)))
      ∙ mod-eq_of_lt (form-below p (length w) A.starts A.cols A.vals h.row.formed i j positive)

  pub upper-loaded : EchelonReady p (length C) C U w₁
  upper-loaded =
      record {
        positive = positive;
        formed = rw loaded-long h.upper.formed;
        many = h.upper.many;
        order = h.upper.order;
        columns = rw loaded-long h.upper.columns;
        unit = h.upper.unit;
        left = h.upper.left;
        below = rw e (loaded-below p (length w) _ _ positive (form-row p (length w) A.starts A.cols A.vals h.row.formed i));
      }

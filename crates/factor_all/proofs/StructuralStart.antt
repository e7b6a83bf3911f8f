-- Factoring from the structural pivots: they are pairs in R and C, from which factoring goes on.
use mathlib.Core.Path.{◌≡◌, sym, ap, ap₂, ◌∙◌}
use mathlib.Core.List.{List, ◌++◌}
use Prim.Native.Nat.{ℕ, ◌+◌, ◌-◌, ◌≤◌}
use native.Mathlib.Omega.{arith}
use lib.ListN.{length, take, drop, length-append, length-map}
use lib.Seq.{length-take-le, take_at}
use Rattle.lists.specs.Filled.{zeros, filled}
use Rattle.sparse.specs.Matrix.{Compressed}
use Rattle.sparse.specs.Set.{Storage, storage_of}
use Rattle.elimination.specs.Structural.{Pair}
use Rattle.elimination.specs.Selection.{structural}
use Rattle.elimination.specs.Pairs.{pair_rows, pair_columns}
use Rattle.elimination.proofs.Selected.{structural-pairs}
use Rattle.factor_order.specs.Needs.{Searchable}
use Rattle.factor_order.specs.Search.{PairsFound}
use Rattle.factor_turn.specs.Passing.{pairs_in, pairs_of}
use Rattle.factor_turn.proofs.Schedules.{pairs-again}
use Rattle.factor_passes.specs.Needs.{FromReady}
use Rattle.factor_passes.proofs.WorkingRow.{part-clear, whole_again, lists-formed, orders-same}
use Rattle.factor_all.specs.Factorization.{factoring, Leaves}
use Rattle.factor_all.specs.Needs.{factoring_in, FactorReady}
use Rattle.factor_all.specs.Factored.{Factored}

-- a list that is filled has room for what it is filled with, and begins with it
module _ (n : ℕ) (xs l : List ℕ) (e : l ≡ filled n xs) (long : length l ≡ n) where
  filled-inside : length xs ≤ n
  unfolding filled
  filled-inside = omega (arith, ap length e, length-append xs (zeros (n - length xs)))

  filled-front : (s : ℕ) → s ≡ length xs → take s l ≡ xs
  unfolding filled
  filled-front s q = ap (take s) e ∙ take_at xs (zeros (n - length xs)) s (sym q)

module _ (p n m : ℕ) (A : Compressed) (S : Storage) (h : FactorReady p n m A S) where
  m-fits : m ≤ length S.work
  m-fits = omega (arith, h.lists.m-fits, h.m-columns)

  pub columns-part : m ≡ length (take m S.work)
  columns-part = sym (length-take-le m S.work m-fits)

  pub search-ready : Searchable p n (length S.C) A S.R S.C (take m S.work)
  search-ready =
      record {
        formed = lists-formed p A S h.lists;
        rows = omega (arith, h.lists.lent.rows, h.n-rows);
        n-small = omega (arith, h.lists.n-narrow, h.n-rows);
        m-small = omega (arith, h.lists.m-narrow);
        R-clear = h.clear.R-clear ∙ ap zeros h.n-rows;
        C-clear = h.clear.C-clear;
        w-clear = part-clear S.work h.lists.clear m m-fits ∙ ap zeros (sym h.m-columns);
      }

  module _ (s : ℕ) (R₁ C₁ part : List ℕ) (d : PairsFound n (length S.C) A s R₁ C₁ part) (eR : length R₁ ≡ length S.R) (eC : length C₁ ≡ length S.C) where
    abbrev ps : List Pair
    ps = structural A n (length S.C)

    R-long : length R₁ ≡ n
    R-long = eR ∙ h.n-rows

    again : part ++ drop m S.work ≡ S.work
    again = whole_again S.work h.lists.clear m m-fits part (d.cleared ∙ ap zeros h.m-columns)

    pub start-long : length (part ++ drop m S.work) ≡ length S.work
    start-long = ap length again

    rows-many : s ≡ length (pair_rows ps)
    rows-many = d.count ∙ sym (length-map ps (λ q. q.row))

    columns-many : s ≡ length (pair_columns ps)
    columns-many = d.count ∙ sym (length-map ps (λ q. q.column))

    pairs-are : pairs_of s R₁ C₁ ≡ ps
    pairs-are = ap₂ pairs_in (filled-front n (pair_rows ps) R₁ d.rows R-long s rows-many) (filled-front (length S.C) (pair_columns ps) C₁ d.columns eC s columns-many) ∙ pairs-again ps

    pub start-from : FromReady p s A (storage_of R₁ C₁ S.L S.U (part ++ drop m S.work))
    start-from =
        rw again (record {
          lists = orders-same p A S R₁ C₁ eR eC h.lists;
          rows_inside = omega (arith, rows-many, R-long, filled-inside n (pair_rows ps) R₁ d.rows R-long);
          columns-inside = omega (arith, columns-many, eC, filled-inside (length S.C) (pair_columns ps) C₁ d.columns eC);
          pairs = rw (R-long, eC, pairs-are) (structural-pairs p n (length S.C) A (lists-formed p A S h.lists) (h.lists.lent.rows ∙ ap (λ (k : ℕ). k + 1) h.n-rows));
          L-clear = h.clear.L-clear;
          U-clear = h.clear.U-clear;
        })

    pub start-leaves : (o : Factored) (S₂ : Storage) → Leaves (factoring_in p s A (storage_of R₁ C₁ S.L S.U (part ++ drop m S.work))) o S₂
        → Leaves (factoring p n m A (length S.L.cols) (length S.U.cols)) o S₂
    unfolding factoring
    start-leaves o S₂ x = rw h.m-columns at (rw (R-long, eC, pairs-are) at x)

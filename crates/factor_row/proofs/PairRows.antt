-- A row that is taken as it stands: its copy is its row of U, and its row of L has one entry.
use mathlib.Core.Path.{◌≡◌, sym, ap, ◌∙◌, subst, subst₂}
use mathlib.Core.Bool.{Bool, true, false, ◌&&◌, true≢false}
use mathlib.Core.List.{List, [], ◌∷◌, ◌++◌}
use Prim.Native.Nat.{ℕ, ◌+◌, ◌≤◌, ◌<◌}
use native.Mathlib.Nat.{zero-add}
use native.Mathlib.Decide.{ℕ_discrete}
use native.Mathlib.Omega.{arith}
use lib.Dec.{leb}
use lib.ListN.{length, get_or, set}
use lib.Seq.{slice}
use borrow.Author.Tests.{leb-true}
use Rattle.lists.specs.Filled.{zeros}
use Rattle.lists.proofs.Bools.{and_left, and_right}
use Rattle.lists.proofs.Filled.{length-zeros}
use Rattle.algebra.specs.Matrix.{Vector}
use Rattle.residue.specs.Inverse.{inv_mod, Invertible}
use Rattle.sparse.specs.Row.{entry, Row}
use Rattle.sparse.specs.Matrix.{Compressed, row_of, matrix}
use Rattle.sparse.specs.Dense.{nonzeros}
use Rattle.sparse.specs.Storing.{DenseStored}
use Rattle.sparse.specs.Copying.{LookupReady, CopyReady, Copied}
use Rattle.sparse.proofs.Entries.{entry-below, row-values}
use Rattle.sparse.proofs.Nonzeros.{count-append, nonzeros-one, stored-then, stored_one}
use Rattle.sparse.proofs.Rows.{form-row}
use Rattle.sparse.proofs.SparseDense.{nonzeros-zeros, columns-zeros, multiple-count, copied-stored}
use Rattle.factor_row.specs.declared.pivot_row.Step.{Step}
use Rattle.factor_row.specs.Gathering.{as_it_stands}
use Rattle.factor_row.specs.Entries.{entry_lists_of}
use Rattle.factor_row.specs.Taking.{next_upper_row, PivotFound, RowFound}
use Rattle.factor_row.specs.Needs.{PivotCopyReady, PairReady}
use Rattle.factor_row.proofs.PivotRows.{inverse-invertible}

-- ---- zeros of L are not stored

stored-zeros : (l r : ℕ) (lc lv : List ℕ) → DenseStored 0 l (zeros r) lc lv lc lv l
stored-zeros l r lc lv =
    record {
      place = omega (arith, ap length (nonzeros-zeros r));
      columns = rw (columns-zeros 0 r);
      values = rw (nonzeros-zeros r);
    }

-- ---- a stored row is copied

module _ (p m c r at l total : ℕ) (cols vals lc lv uc uv : List ℕ) (h : PivotCopyReady p m c r at l total cols vals (entry_lists_of lc lv uc uv)) where
  abbrev v : ℕ
  v = entry cols vals c

  pub lookup-ready : LookupReady cols vals
  lookup-ready = record { width = m; rising = h.row.rising; paired = h.row.paired }

  invertible : Invertible p v
  invertible =
      record { prime = h.prime; nonzero = positive (ℕ_discrete v 0); below = entry-below p m 0 c cols vals (omega (arith, h.prime.two)) h.row.rising h.row.nonzero }
    where
      positive : Dec (v ≡ 0) → 0 < v
      positive (yes e) = absurd (h.here e)
      positive (no e) = omega arith

  pub value-invertible : (x : ℕ) → x ≡ v → Invertible p x
  value-invertible x e = rw e invertible

  entries-of-U : length (nonzeros (next_upper_row p m c (entry cols vals))) ≡ length cols
  unfolding next_upper_row
  entries-of-U = multiple-count p (inv_mod p v) (inverse-invertible p v invertible) m cols vals h.row

  entries-of-L : length (nonzeros (zeros r ++ (v ∷ []))) ≡ 1
  unfolding nonzeros
  entries-of-L = count-append (zeros r) (v ∷ []) ∙ omega (arith, ap length (nonzeros-zeros r), nonzeros-one v [] h.here)

  module _ (b : Bool) (eb : b ≡ (leb (total + 1) (length lc) && leb (at + length cols) (length uc))) where
    tested : (leb (total + length (nonzeros (zeros r ++ (v ∷ [])))) (length lc) && leb (at + length (nonzeros (next_upper_row p m c (entry cols vals)))) (length uc)) ≡ b
    tested = (λ t. leb (total + entries-of-L t) (length lc) && leb (at + entries-of-U t) (length uc)) ∙ sym eb

    pub copy-over : b ≡ false → (at' l' total' : ℕ) → PivotFound p at l total (as_it_stands m r c (entry cols vals)) (entry_lists_of lc lv uc uv) (entry_lists_of lc lv uc uv) (record { over = true; column = c; at = at'; l = l'; total = total' })
    copy-over e at' l' total' =
        record { fit = tested ∙ e; lower = λ z. absurd (true≢false z); upper = λ z. absurd (true≢false z); count = λ z. absurd (true≢false z) }

    module _ (e : b ≡ true) where
      pub one_entry : total + 1 ≤ length lc
      one_entry = leb-true (total + 1) (length lc) (and_left (leb (total + 1) (length lc)) (leb (at + length cols) (length uc)) (sym eb ∙ e))

      pub copy-ready : (i : ℕ) → i < p → CopyReady p i at cols vals uc uv
      copy-ready i low =
          record {
            residue = low;
            below = row-values p m cols vals h.row;
            paired = h.row.paired;
            fits = leb-true (at + length cols) (length uc) (and_right (leb (total + 1) (length lc)) (leb (at + length cols) (length uc)) (sym eb ∙ e));
            lists = h.lists.U-paired;
          }

      pub copy_done : (x i : ℕ) → x ≡ v → i ≡ inv_mod p x → (uc' uv' : List ℕ) (at' : ℕ) → Copied p i at cols vals uc uv uc' uv' at'
          → PivotFound p at l total (as_it_stands m r c (entry cols vals)) (entry_lists_of lc lv uc uv) (entry_lists_of (set lc l r) (set lv l x) uc' uv') (record { over = false; column = c; at = at'; l = l + 1; total = total + 1 })
      unfolding next_upper_row
      copy_done x i ex ei uc' uv' at' d =
          record {
            fit = tested ∙ e;
            lower = λ z. stored-then 0 l (zeros r) (v ∷ []) lc lv lc lv (set lc l r) (set lv l x) l (l + 1) (stored-zeros l r lc lv) last;
            upper = λ z. copied-stored p (inv_mod p v) (inverse-invertible p v invertible) m cols vals h.row at uc uv uc' uv' at' (rw (ei ∙ ap (inv_mod p) ex) at d);
            count = λ z. ap (λ (n : ℕ). total + n) (sym entries-of-L);
          }
        where
          last : DenseStored (0 + length (zeros r)) l (v ∷ []) lc lv (set lc l r) (set lv l x) (l + 1)
          last = rw (length-zeros r, zero-add, ex) (stored_one r l v lc lv h.here)

-- ---- row i of the matrix, as a part of its lists

module _ (p i c r at l total : ℕ) (A : Compressed) (w lc lv uc uv : List ℕ) (h : PairReady p i c r at l total A w (entry_lists_of lc lv uc uv))
    (a e : ℕ) (ea : a ≡ get_or A.starts i 0) (ee : e ≡ get_or A.starts (i + 1) 0) (cs vs : List ℕ) (ec : cs ≡ slice a e A.cols) (ev : vs ≡ slice a e A.vals) where
  columns-are : cs ≡ row_of A.starts i A.cols
  columns-are = ec ∙ (λ t. slice (ea t) (ee t) A.cols)

  values-are : vs ≡ row_of A.starts i A.vals
  values-are = ev ∙ (λ t. slice (ea t) (ee t) A.vals)

  entries-are : entry cs vs ≡ matrix A i
  entries-are t = entry (columns-are t) (values-are t)

  pub pair-ready : PivotCopyReady p (length w) c r at l total cs vs (entry_lists_of lc lv uc uv)
  pair-ready =
      record {
        prime = h.prime;
        row = subst₂ (Row p (length w)) (sym columns-are) (sym values-are) (form-row p (length w) A.starts A.cols A.vals h.row.formed i);
        column = h.column;
        here = λ z. h.here (sym (λ t. entries-are t c) ∙ z);
        lists = h.lists;
      }

  pub pair-taken : (lc' lv' uc' uv' : List ℕ) (s : Step) → s.column ≡ c
      → PivotFound p at l total (as_it_stands (length w) r c (entry cs vs)) (entry_lists_of lc lv uc uv) (entry_lists_of lc' lv' uc' uv') s
      → RowFound p at l total (as_it_stands (length w) r c (matrix A i)) (entry_lists_of lc lv uc uv) (entry_lists_of lc' lv' uc' uv') w s
  pair-taken lc' lv' uc' uv' s column d =
      record {
        pivot = λ b. subst (λ (y : Vector). PivotFound p at l total (as_it_stands (length w) r c y) (entry_lists_of lc lv uc uv) (entry_lists_of lc' lv' uc' uv') s) entries-are d;
        dependent = λ b. absurd (omega (arith, h.column));
        column = λ z. column;
        clear = λ z. h.row.clear;
      }

-- Where a row of a stored matrix has entries: exactly in the columns that are stored of it, which rise.
use Prim.Native.Nat.{ℕ, zero, suc, ◌+◌, ◌<◌}
use mathlib.Core.Path.{◌≡◌, sym, ap, ◌∙◌}
use mathlib.Core.Bool.{true, not, true≢false}
use mathlib.Core.List.{List, [], ◌∷◌}
use native.Mathlib.Omega.{arith}
use native.Mathlib.Decide.{ℕ_discrete}
use lib.ListN.{length, get_or}
use borrow.Author.Tests.{eq-eqb, ne_eqb}
use Rattle.sparse.specs.Matrix.{Compressed, matrix, row_of}
use Rattle.sparse.proofs.Entries.{entry_at, entry_absent, values-at, rises-apart, row-columns}
use Rattle.sparse.proofs.Rows.{form-row, form-starts}
use Rattle.elimination.specs.Selection.{nonzero}
use Rattle.factor_names.specs.Sized.{RowWithin, SmallMatrix}

module _ (p n m : ℕ) (A : Compressed) (z : SmallMatrix p n m A) where
  -- the columns of row i
  abbrev pub row : ℕ → List ℕ
  row i = row_of A.starts i A.cols

  pub row-stored : (i : ℕ) → i < n → RowWithin A.starts A.cols i
  row-stored i h =
      let inside : i + 1 < length A.starts = omega (arith, z.rows) in
      let s = form-starts p m A.starts A.cols A.vals z.formed i inside in
      record { inside = inside; rising = s.0; stored = s.1 }

  pub row_inside : (i t : ℕ) → t < length (row i) → get_or (row i) t 0 < m
  row_inside i t h = row-columns p m (row i) (row_of A.starts i A.vals) (form-row p m A.starts A.cols A.vals z.formed i) t h

  pub row-rises : (i t u : ℕ) → t < u → u < length (row i) → get_or (row i) t 0 < get_or (row i) u 0
  row-rises i t u b h = rises-apart m 0 (row i) t u (form-row p m A.starts A.cols A.vals z.formed i).rising b h

  -- a stored column has an entry
  pub row_has : (i t : ℕ) → t < length (row i) → nonzero (matrix A) i (get_or (row i) t 0) ≡ true
  row_has i t h =
      let r = form-row p m A.starts A.cols A.vals z.formed i in
      let inside : t < length (row_of A.starts i A.vals) = omega (arith, r.paired) in
      let v = values-at p (row_of A.starts i A.vals) r.nonzero t inside in
      ap not (ne_eqb (matrix A i (get_or (row i) t 0)) 0 (λ e. omega (arith, v.0, entry_at m 0 (row i) (row_of A.starts i A.vals) r.rising t h inside)))

  -- and where there is an entry the column is stored
  pub has-row : (i j : ℕ) → nonzero (matrix A) i j ≡ true → (t : ℕ) × (t < length (row i)) × (get_or (row i) t 0 ≡ j)
  has-row i j e = go (found (row i))
    where
      Found : List ℕ → Type 0
      Found l = (t : ℕ) × (t < length l) × (get_or l t 0 ≡ j)

      found : (l : List ℕ) → Dec (Found l)
      found [] = no (λ f. absurd (omega (arith, f.1)))
      found (c ∷ cs) = either (ℕ_discrete c j) (found cs)
        where
          either : Dec (c ≡ j) → Dec (Found cs) → Dec (Found (c ∷ cs))
          either (yes q) d = yes (0, omega arith, q)
          either (no q) (yes f) = yes (suc f.0, omega (arith, f.1), f.2)
          either (no q) (no f) = no (λ x. later x)
            where
              later : Found (c ∷ cs) → ⊥
              later (zero, h, r) = q r
              later (suc t, h, r) = f (t, omega arith, r)

      go : Dec (Found (row i)) → Found (row i)
      go (yes f) = f
      go (no f) = absurd (true≢false (sym e ∙ ap not (eq-eqb (matrix A i j) 0 (entry_absent (row i) (row_of A.starts i A.vals) j (λ t h q. f (t, h, q))))))

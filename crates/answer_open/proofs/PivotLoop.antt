-- The loops over the pivot columns, from the last row of U up.
use mathlib.Core.Path.{◌≡◌, refl, sym, ap, subst, ◌∙◌}
use mathlib.Core.Logic.{◌≢◌}
use mathlib.Core.List.{List}
use Prim.Native.Nat.{ℕ, suc, ◌-◌, ◌≤◌, ◌<◌}
use native.Mathlib.Decide.{ℕ_discrete, dec_lt}
use native.Mathlib.Omega.{arith}
use lib.ListN.{length, get_or, set, length-set}
use lib.Seq.{get_or-set_same, get_or-set_other}
use Rattle.lists.specs.Filled.{zeros}
use Rattle.lists.specs.Tabulate.{tabulate}
use Rattle.lists.proofs.Filled.{zeros-at}
use Rattle.lists.proofs.Tabulate.{tabulated}
use Rattle.algebra.specs.Matrix.{vector}
use Rattle.algebra.proofs.Finite.{onto}
use Rattle.sparse.specs.Row.{entry}
use Rattle.sparse.specs.Matrix.{Compressed, row_of, matrix}
use Rattle.sparse.proofs.Entries.{row-columns, values-at, entry_at}
use Rattle.answer_open.specs.Counting.{closed_others}
use Rattle.answer_open.specs.Opening.{open_cell, Settled, PivotCell}
use Rattle.answer_open.specs.Needs.{EchelonPassed, Known, PivotCellReady}
use Rattle.answer_open.proofs.Kernel.{other-closed}
use Rattle.answer_open.proofs.PivotLaws.{order, shape, pivot-inside, row-of, pivot-none, pivot-one}

-- where the loops start, no column is settled
pub settled-starts : (p r : ℕ) (U : Compressed) (C o : List ℕ) → o ≡ zeros (length o) → Settled p r U C (length o) o r
settled-starts p r U C o e =
    record {
      inside = omega arith;
      long = refl;
      early = λ i h f. absurd (f (zero-at (get_or C i 0)));
      done = λ i h g. absurd (omega arith);
      rest = λ i h g. zero-at (get_or C i 0);
    }
  where
    zero-at : (c : ℕ) → get_or o c 0 ≡ 0
    zero-at c = ap (λ (l : List ℕ). get_or l c 0) e ∙ zeros-at (length o) c

module _ (p r : ℕ) (U : Compressed) (C : List ℕ) (m : ℕ) (f : EchelonPassed p r U C m) where
  abbrev cell : ℕ → ℕ
  cell c = open_cell p m (vector C) (matrix U) r c

  apart : (i k : ℕ) → i < m → k < m → get_or C i 0 ≡ get_or C k 0 → i ≡ k
  apart i k = (order p r U C m f).apart i k

  others : (i : ℕ) → r ≤ i → i < m → cell (get_or C i 0) ≡ 0
  others = other-closed f.prime m r (vector C) (matrix U) (order p r U C m f) f.rank (shape p r U C m f).left (shape p r U C m f).unit

  module _ (o : List ℕ) (k : ℕ) (h : k < r) (s : Settled p r U C m o (suc k)) where
    abbrev cs : List ℕ
    cs = row_of U.starts k U.cols

    abbrev vs : List ℕ
    vs = row_of U.starts k U.vals

    -- the row has no column of a row before it
    not-before : (t : ℕ) → t < length cs → (i : ℕ) → i < k → get_or C i 0 ≢ get_or cs t 0
    not-before t b i g e =
        let row = row-of p r U C m f k h in
        let v = (values-at p vs row.nonzero t (omega (arith, row.paired))).0 in
        let q = sym (ap (entry cs vs) e) ∙ (shape p r U C m f).left k i g h in
        omega (arith, v, q, entry_at m 0 cs vs row.rising t b (omega (arith, row.paired)))

    column-known : (c i : ℕ) → i < m → get_or C i 0 ≡ c → c ≢ get_or C k 0 → (i < k → ⊥) → Dec (i < r) → get_or o c 0 ≡ cell c
    column-known c i g e away late (yes b) =
        rw (← e) (s.done i (elim (ℕ_discrete i k) [ yes q ↦ absurd (away (sym e ∙ ap (λ (n : ℕ). get_or C n 0) q)) | no q ↦ omega arith ]) b)
    column-known c i g e away late (no b) = rw (← e) (s.rest i (omega arith) g ∙ sym (others i (omega arith) g))

    row-known : Known p r U C k o
    row-known t b away =
        let c = get_or cs t 0 in
        let (i, g, e) = onto m (vector C) (order p r U C m f) c (row-columns p m cs vs (row-of p r U C m f k h) t b) in
        column-known c i g e away (λ l. not-before t b i l e) (dec_lt i r)
        ∙ ap (λ (n : ℕ). open_cell p n (vector C) (matrix U) r c) (sym s.long)

    row-ready : (w : List ℕ) → length w ≡ m → w ≡ zeros (length w) → PivotCellReady p k r U C o w
    row-ready w long clear =
        record {
          unit = record { factor = rw long f; inside = h; clear = clear };
          long = s.long ∙ sym long;
          known = row-known;
          marked = λ q. ap (λ (n : ℕ). open_cell p n (vector C) (matrix U) r (get_or C k 0)) long ∙ s.early k (omega arith) q;
        }

    row-counted : (c v : ℕ) → c ≡ get_or C k 0 → v ≡ closed_others c o (row_of U.starts k U.cols) → v ≤ 1 → 1 - v ≡ cell (get_or C k 0)
    row-counted c v ec ev most = go (ℕ_discrete v 0)
      where
        counted : closed_others (get_or C k 0) o (row_of U.starts k U.cols) ≡ v
        counted = sym (ev ∙ ap (λ (i : ℕ). closed_others i o (row_of U.starts k U.cols)) ec)

        go : Dec (v ≡ 0) → 1 - v ≡ cell (get_or C k 0)
        go (yes e) = omega (arith, pivot-none p r U C m f k h o s.long row-known (counted ∙ e))
        go (no e) = let one : v ≡ 1 = omega arith in omega (arith, pivot-one p r U C m f k h o s.long row-known (counted ∙ one))

    row_settled : (j v : ℕ) → j ≡ get_or C k 0 → v ≡ cell (get_or C k 0) → Settled p r U C m (set o j v) k
    row_settled j v ej value =
        record {
          inside = omega arith;
          long = length-set o j v ∙ s.long;
          early = λ i g q. s.early i (omega arith) (λ e. q (elsewhere i (omega (arith, f.rank)) (omega arith) ∙ e));
          done = λ i g b. done i g b (ℕ_discrete i k);
          rest = λ i g b. elsewhere i b (omega arith) ∙ s.rest i g b;
        }
      where
        inside : j < length o
        inside = omega (arith, ej, s.long, pivot-inside p r U C m f k h)

        elsewhere : (i : ℕ) → i < m → i ≢ k → get_or (set o j v) (get_or C i 0) 0 ≡ get_or o (get_or C i 0) 0
        elsewhere i b e = get_or-set_other o j (get_or C i 0) v 0 (λ q. e (apart i k b (omega (arith, f.rank)) (q ∙ ej)))

        done : (i : ℕ) → k ≤ i → i < r → Dec (i ≡ k) → get_or (set o j v) (get_or C i 0) 0 ≡ cell (get_or C i 0)
        done i g b (yes e) = rw (e, ← ej) (get_or-set_same o j v 0 inside ∙ value ∙ ap cell (sym ej))
        done i g b (no e) = elsewhere i (omega (arith, f.rank)) e ∙ s.done i (omega arith) b

  -- the loops go down
  module _ (o : List ℕ) (k : ℕ) (h : 0 < k) (s : Settled p r U C m o k) where
    inside-at : k - 1 < r
    inside-at = omega (arith, s.inside)

    at : Settled p r U C m o (suc (k - 1))
    at = subst (λ (n : ℕ). Settled p r U C m o n) (let q : k ≡ suc (k - 1) = omega arith in q) s

    pub settled-place : (j : ℕ) → j ≡ get_or C (k - 1) 0 → j < length o
    settled-place j e = omega (arith, e, s.long, pivot-inside p r U C m f (k - 1) inside-at)

    pub settled-ready : (w : List ℕ) → length w ≡ m → w ≡ zeros (length w) → PivotCellReady p (k - 1) r U C o w
    settled-ready = row-ready o (k - 1) inside-at at

    pub settled-counted : (c j v : ℕ) → c ≡ get_or C (k - 1) 0 → j ≡ c → v ≡ closed_others c o (row_of U.starts (k - 1) U.cols) → v ≤ 1 → Settled p r U C m (set o j (1 - v)) (k - 1)
    settled-counted c j v ec ej ev most = row_settled o (k - 1) inside-at at j (1 - v) (ej ∙ ec) (row-counted o (k - 1) inside-at at c v ec ev most)

    pub settled-next : (w w' : List ℕ) (j v : ℕ) → j ≡ get_or C (k - 1) 0 → length w ≡ m → PivotCell (open_cell p (length w) (vector C) (matrix U) r (get_or C (k - 1) 0)) v w'
        → Settled p r U C m (set o j v) (k - 1)
    settled-next w w' j v ej long a =
        row_settled o (k - 1) inside-at at j v ej (a.value ∙ ap (λ (n : ℕ). open_cell p n (vector C) (matrix U) r (get_or C (k - 1) 0)) long)

  pub settled-ends : (o : List ℕ) (k : ℕ) → k ≡ 0 → Settled p r U C m o k → o ≡ tabulate m (open_cell p m (vector C) (matrix U) r)
  settled-ends o k e s = tabulated m (open_cell p m (vector C) (matrix U) r) o s.long (λ c h. there c (onto m (vector C) (order p r U C m f) c h))
    where
      known : (i : ℕ) → i < m → Dec (i < r) → get_or o (get_or C i 0) 0 ≡ cell (get_or C i 0)
      known i h (yes b) = s.done i (omega arith) b
      known i h (no b) = s.rest i (omega arith) h ∙ sym (others i (omega arith) h)

      there : (c : ℕ) → (i : ℕ) × (i < m) × (get_or C i 0 ≡ c) → get_or o c 0 ≡ cell c
      there c (i, h, q) = rw (← q) (known i h (dec_lt i r))

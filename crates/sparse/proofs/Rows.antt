-- What the form of a stored matrix gives of each of its rows.
use mathlib.Core.Path.{◌≡◌, refl, sym, ap, ◌∙◌}
use mathlib.Core.Bool.{true, ◌&&◌}
use mathlib.Core.List.{List, [], ◌∷◌}
use Prim.Native.Nat.{ℕ, zero, suc, ◌+◌, ◌≤◌, ◌<◌}
use native.Mathlib.Omega.{arith}
use native.Mathlib.Numerals.{add-one}
use native.Mathlib.Decide.{dec_lt}
use lib.Dec.{leb, ltb, eqb}
use lib.ListN.{length, get_or, take, drop, get_or-eq_default}
use lib.Seq.{slice, length-slice, drop-nil}
use borrow.Author.Tests.{leb-true, eqb-true}
use Rattle.lists.proofs.Bools.{and_both, and_left, and_right}
use Rattle.sparse.specs.Form.{rises_from, rows_from, starts_from, starts_ok, values_ok, well_formed}
use Rattle.sparse.specs.Row.{entry, Row}
use Rattle.sparse.specs.Matrix.{row_of}
use Rattle.sparse.proofs.Forms.{starts-le}
use Rattle.sparse.proofs.Entries.{entry-below}

values-take : (p n : ℕ) (vals : List ℕ) → values_ok p vals ≡ true → values_ok p (take n vals) ≡ true
unfolding values_ok
values-take p zero vals h = refl
values-take p (suc n) [] h = refl
values-take p (suc n) (v ∷ vs) h =
    and_both (ltb 0 v && ltb v p) (values_ok p (take n vs)) (and_left (ltb 0 v && ltb v p) (values_ok p vs) h) (values-take p n vs (and_right (ltb 0 v && ltb v p) (values_ok p vs) h))

values-drop : (p n : ℕ) (vals : List ℕ) → values_ok p vals ≡ true → values_ok p (drop n vals) ≡ true
unfolding values_ok
values-drop p zero vals h = h
values-drop p (suc n) [] h = h
values-drop p (suc n) (v ∷ vs) h = values-drop p n vs (and_right (ltb 0 v && ltb v p) (values_ok p vs) h)

rows_at : (width : ℕ) (cols : List ℕ) (from : ℕ) (ss : List ℕ) (k : ℕ) → rows_from width cols from ss ≡ true → k < length ss
    → rises_from width 0 (slice (get_or (from ∷ ss) k 0) (get_or ss k 0) cols) ≡ true
unfolding rows_from
rows_at width cols from [] k h g = absurd (omega arith)
rows_at width cols from (s ∷ ss) zero h g = and_left (rises_from width 0 (slice from s cols)) (rows_from width cols s ss) h
rows_at width cols from (s ∷ ss) (suc k) h g = rows_at width cols s ss k (and_right (rises_from width 0 (slice from s cols)) (rows_from width cols s ss) h) (omega arith)

starts-at : (total from : ℕ) (ss : List ℕ) (k : ℕ) → starts_from total from ss ≡ true → k < length ss
    → (get_or (from ∷ ss) k 0 ≤ get_or ss k 0) × (get_or ss k 0 ≤ total)
unfolding starts_from
starts-at total from [] k h g = absurd (omega arith)
starts-at total from (s ∷ ss) zero h g =
    (leb-true from s (and_left (leb from s) (starts_from total s ss) h), starts-le total s ss (and_right (leb from s) (starts_from total s ss) h))
starts-at total from (s ∷ ss) (suc k) h g = starts-at total s ss k (and_right (leb from s) (starts_from total s ss) h) (omega arith)

module _ (p width : ℕ) (ss cols vals : List ℕ) (f : well_formed p width ss cols vals ≡ true) where
  starts-good : starts_ok (length cols) ss ≡ true
  unfolding well_formed
  starts-good = and_left (starts_ok (length cols) ss) (eqb (length vals) (length cols) && (rows_from width cols 0 (drop 1 ss) && values_ok p vals)) f

  others : (eqb (length vals) (length cols) && (rows_from width cols 0 (drop 1 ss) && values_ok p vals)) ≡ true
  unfolding well_formed
  others = and_right (starts_ok (length cols) ss) (eqb (length vals) (length cols) && (rows_from width cols 0 (drop 1 ss) && values_ok p vals)) f

  pub form-paired : length cols ≡ length vals
  form-paired = sym (eqb-true (length vals) (length cols) (and_left (eqb (length vals) (length cols)) (rows_from width cols 0 (drop 1 ss) && values_ok p vals) others))

  rows-good : rows_from width cols 0 (drop 1 ss) ≡ true
  rows-good = and_left (rows_from width cols 0 (drop 1 ss)) (values_ok p vals) (and_right (eqb (length vals) (length cols)) (rows_from width cols 0 (drop 1 ss) && values_ok p vals) others)

  pub form-values : values_ok p vals ≡ true
  form-values = and_right (rows_from width cols 0 (drop 1 ss)) (values_ok p vals) (and_right (eqb (length vals) (length cols)) (rows_from width cols 0 (drop 1 ss) && values_ok p vals) others)

  -- where row k lies
  pub form-starts : (k : ℕ) → k + 1 < length ss → (get_or ss k 0 ≤ get_or ss (k + 1) 0) × (get_or ss (k + 1) 0 ≤ length cols)
  unfolding starts_ok
  form-starts k h = go ss starts-good h
    where
      go : (ss : List ℕ) → starts_ok (length cols) ss ≡ true → k + 1 < length ss → (get_or ss k 0 ≤ get_or ss (k + 1) 0) × (get_or ss (k + 1) 0 ≤ length cols)
      go [] h g = absurd (omega arith)
      go (s ∷ ss) h g =
          let z : s ≡ 0 = eqb-true s 0 (and_left (eqb s 0) (starts_from (length cols) 0 ss) h) in
          rw (add-one k, z) (starts-at (length cols) 0 ss k (and_right (eqb s 0) (starts_from (length cols) 0 ss) h) (omega arith))

  rising-at : (k : ℕ) → k + 1 < length ss → rises_from width 0 (row_of ss k cols) ≡ true
  unfolding starts_ok
  rising-at k h = go ss starts-good rows-good h
    where
      go : (ss : List ℕ) → starts_ok (length cols) ss ≡ true → rows_from width cols 0 (drop 1 ss) ≡ true → k + 1 < length ss → rises_from width 0 (row_of ss k cols) ≡ true
      go [] h r g = absurd (omega arith)
      go (s ∷ ss) h r g =
          let z : s ≡ 0 = eqb-true s 0 (and_left (eqb s 0) (starts_from (length cols) 0 ss) h) in
          rw (add-one k, z) (rows_at width cols 0 ss k r (omega arith))

  -- past the last row there is nothing
  nothing : (k : ℕ) (xs : List ℕ) → length ss ≤ k + 1 → row_of ss k xs ≡ []
  nothing k xs h = ap (λ (e : ℕ). slice (get_or ss k 0) e xs) (get_or-eq_default ss 0 h) ∙ drop-nil (get_or ss k 0)

  pub form-row : (k : ℕ) → Row p width (row_of ss k cols) (row_of ss k vals)
  unfolding rises_from
  form-row k = go (dec_lt (k + 1) (length ss))
    where
      small : values_ok p (row_of ss k vals) ≡ true
      small = values-drop p (get_or ss k 0) (take (get_or ss (k + 1) 0) vals) (values-take p (get_or ss (k + 1) 0) vals form-values)

      go : Dec (k + 1 < length ss) → Row p width (row_of ss k cols) (row_of ss k vals)
      go (yes h) =
          let s = form-starts k h in
          record {
            paired =
                length-slice (get_or ss k 0) (get_or ss (k + 1) 0) cols s.1
                ∙ sym (length-slice (get_or ss k 0) (get_or ss (k + 1) 0) vals (omega (arith, s.1, form-paired)));
            rising = rising-at k h;
            nonzero = small;
          }
      go (no h) =
          record {
            paired = ap length (nothing k cols (omega arith)) ∙ sym (ap length (nothing k vals (omega arith)));
            rising = ap (rises_from width 0) (nothing k cols (omega arith));
            nonzero = small;
          }

  -- every entry is a residue
  pub form-below : (i j : ℕ) → 0 < p → entry (row_of ss i cols) (row_of ss i vals) j < p
  form-below i j pos = entry-below p width 0 j (row_of ss i cols) (row_of ss i vals) pos (form-row i).rising (form-row i).nonzero

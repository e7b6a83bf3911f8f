-- Laws of the forms: one element at a time, as the loops go.
use mathlib.Core.Path.{◌≡◌, refl, sym, ap, ◌∙◌}
use mathlib.Core.Bool.{Bool, true, false, not, ◌&&◌, false≢true}
use mathlib.Core.List.{List, [], ◌∷◌}
use Prim.Native.Nat.{ℕ, ◌+◌, ◌≤◌, ◌<◌}
use native.Mathlib.Omega.{arith}
use native.Mathlib.Nat.{le_trans}
use lib.Dec.{leb, ltb, eqb}
use lib.ListN.{length, get_or, drop}
use lib.Seq.{slice, slice_empty}
use borrow.Author.Tests.{lt-leb, le-leb, lt-ltb, le-ltb, eq-eqb, ne_eqb, leb-true, eqb-true, not-true, not-false}
use Rattle.lists.proofs.Bools.{and_left, and_right}
use Rattle.lists.proofs.Steps.{drop-step, drop-end, slice-step}
use Rattle.sparse.specs.Form.{rises_from, starts_from, starts_ok, rows_from, values_ok}

-- columns
module _ (width low : ℕ) (l : List ℕ) (i e v : ℕ) (h : i < e) (k : e ≤ length l) (q : v ≡ get_or l i 0) where
  rises-step : rises_from width low (slice i e l) ≡ ((leb low v && ltb v width) && rises_from width (v + 1) (slice (i + 1) e l))
  unfolding rises_from
  rises-step = ap (rises_from width low) (slice-step l i e v h k q)

  pub rises-low : v < low → rises_from width low (slice i e l) ≡ false
  rises-low t = rises-step ∙ ap (λ (b : Bool). (b && ltb v width) && rises_from width (v + 1) (slice (i + 1) e l)) (lt-leb low v t)

  pub rises-wide : low ≤ v → width ≤ v → rises_from width low (slice i e l) ≡ false
  rises-wide t u = rises-step ∙ (λ j. (le-leb low v t j && le-ltb v width u j) && rises_from width (v + 1) (slice (i + 1) e l))

  pub rises-on : low ≤ v → v < width → rises_from width low (slice i e l) ≡ rises_from width (v + 1) (slice (i + 1) e l)
  rises-on t u = rises-step ∙ (λ j. (le-leb low v t j && lt-ltb v width u j) && rises_from width (v + 1) (slice (i + 1) e l))

pub rises-end : (width low : ℕ) (l : List ℕ) (i e : ℕ) → i ≤ e → e ≤ i → rises_from width low (slice i e l) ≡ true
unfolding rises_from
rises-end width low l i e h k = ap (λ (n : ℕ). rises_from width low (slice n e l)) (let q : i ≡ e = omega arith in q) ∙ ap (rises_from width low) (slice_empty e l)

-- starts
module _ (total from : ℕ) (l : List ℕ) (i v : ℕ) (h : i < length l) (q : v ≡ get_or l i 0) where
  starts-step : starts_from total from (drop i l) ≡ (leb from v && starts_from total v (drop (i + 1) l))
  unfolding starts_from
  starts-step = ap (starts_from total from) (drop-step l i v h q)

  pub starts-falls : v < from → starts_from total from (drop i l) ≡ false
  starts-falls t = starts-step ∙ ap (λ (b : Bool). b && starts_from total v (drop (i + 1) l)) (lt-leb from v t)

  pub starts-on : from ≤ v → starts_from total from (drop i l) ≡ starts_from total v (drop (i + 1) l)
  starts-on t = starts-step ∙ ap (λ (b : Bool). b && starts_from total v (drop (i + 1) l)) (le-leb from v t)

pub starts-end : (total from : ℕ) (l : List ℕ) (i : ℕ) → i ≤ length l → length l ≤ i → starts_from total from (drop i l) ≡ eqb from total
unfolding starts_from
starts-end total from l i h k = ap (starts_from total from) (drop-end l i h k)

-- values
module _ (p : ℕ) (l : List ℕ) (i v : ℕ) (h : i < length l) (q : v ≡ get_or l i 0) where
  values-step : values_ok p (drop i l) ≡ ((ltb 0 v && ltb v p) && values_ok p (drop (i + 1) l))
  unfolding values_ok
  values-step = ap (values_ok p) (drop-step l i v h q)

  pub values-zero : v ≡ 0 → values_ok p (drop i l) ≡ false
  values-zero t = values-step ∙ ap (λ (b : Bool). (b && ltb v p) && values_ok p (drop (i + 1) l)) (le-ltb 0 v (omega arith))

  pub values-high : (v ≡ 0 → ⊥) → p ≤ v → values_ok p (drop i l) ≡ false
  values-high t u = values-step ∙ (λ j. (lt-ltb 0 v (omega arith) j && le-ltb v p u j) && values_ok p (drop (i + 1) l))

  pub values-on : (v ≡ 0 → ⊥) → v < p → values_ok p (drop i l) ≡ values_ok p (drop (i + 1) l)
  values-on t u = values-step ∙ (λ j. (lt-ltb 0 v (omega arith) j && lt-ltb v p u j) && values_ok p (drop (i + 1) l))

pub values-end : (p : ℕ) (l : List ℕ) (i : ℕ) → i ≤ length l → length l ≤ i → values_ok p (drop i l) ≡ true
unfolding values_ok
values-end p l i h k = ap (values_ok p) (drop-end l i h k)

pub starts_none : (total : ℕ) (l : List ℕ) → length l ≡ 0 → starts_ok total l ≡ false
unfolding starts_ok
starts_none total [] h = refl
starts_none total (s ∷ ss) h = absurd (omega arith)

pub starts_first : (total : ℕ) (l : List ℕ) (v : ℕ) → v ≡ get_or l 0 0 → (v ≡ 0 → ⊥) → starts_ok total l ≡ false
unfolding starts_ok
starts_first total [] v q h = refl
starts_first total (s ∷ ss) v q h = ap (λ (b : Bool). b && starts_from total 0 ss) (ne_eqb s 0 (λ e. h (q ∙ e)))

pub starts-rest : (total : ℕ) (l : List ℕ) (v : ℕ) → v ≡ get_or l 0 0 → v ≡ 0 → (length l ≡ 0 → ⊥) → starts_ok total l ≡ starts_from total 0 (drop 1 l)
unfolding starts_ok
starts-rest total [] v q z h = absurd (h refl)
starts-rest total (s ∷ ss) v q z h = ap (λ (b : Bool). b && starts_from total 0 ss) (eq-eqb s 0 (sym q ∙ z))

pub starts-true : (total : ℕ) (l : List ℕ) → starts_ok total l ≡ true → (1 ≤ length l) × (starts_from total 0 (drop 1 l) ≡ true)
unfolding starts_ok
starts-true total [] e = absurd (false≢true e)
starts-true total (s ∷ ss) e = (omega arith, and_right (eqb s 0) (starts_from total 0 ss) e)

pub starts-le : (total from : ℕ) (l : List ℕ) → starts_from total from l ≡ true → from ≤ total
unfolding starts_from
starts-le total from [] e = let q : from ≡ total = eqb-true from total e in omega arith
starts-le total from (s ∷ ss) e =
    le_trans (leb-true from s (and_left (leb from s) (starts_from total s ss) e)) (starts-le total s ss (and_right (leb from s) (starts_from total s ss) e))

pub starts-next : (total from : ℕ) (l : List ℕ) (i v : ℕ) → i < length l → v ≡ get_or l i 0 → starts_from total from (drop i l) ≡ true
    → (from ≤ v) × (starts_from total v (drop (i + 1) l) ≡ true)
starts-next total from l i v h q e =
    let t : (leb from v && starts_from total v (drop (i + 1) l)) ≡ true = sym (starts-step total from l i v h q) ∙ e in
    (leb-true from v (and_left (leb from v) (starts_from total v (drop (i + 1) l)) t), and_right (leb from v) (starts_from total v (drop (i + 1) l)) t)

-- rows
module _ (width : ℕ) (cols : List ℕ) (from : ℕ) (l : List ℕ) (i v : ℕ) (h : i < length l) (q : v ≡ get_or l i 0) (r : Bool) (t : r ≡ rises_from width 0 (slice from v cols)) where
  rows_step : rows_from width cols from (drop i l) ≡ (r && rows_from width cols v (drop (i + 1) l))
  unfolding rows_from
  rows_step = ap (rows_from width cols from) (drop-step l i v h q) ∙ ap (λ (b : Bool). b && rows_from width cols v (drop (i + 1) l)) (sym t)

  pub rows-fail : not r ≡ true → rows_from width cols from (drop i l) ≡ false
  rows-fail u = rows_step ∙ ap (λ (b : Bool). b && rows_from width cols v (drop (i + 1) l)) (not-true r u)

  pub rows_on : not r ≡ false → rows_from width cols from (drop i l) ≡ rows_from width cols v (drop (i + 1) l)
  rows_on u = rows_step ∙ ap (λ (b : Bool). b && rows_from width cols v (drop (i + 1) l)) (not-false r u)

pub rows_end : (width : ℕ) (cols : List ℕ) (from : ℕ) (l : List ℕ) (i : ℕ) → i ≤ length l → length l ≤ i → rows_from width cols from (drop i l) ≡ true
unfolding rows_from
rows_end width cols from l i h k = ap (rows_from width cols from) (drop-end l i h k)

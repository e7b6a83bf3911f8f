-- The first pass of the pivot search: the row that each cell of the working row names, one row more at a time.
use mathlib.Core.Path.{◌≡◌, refl, sym, ap, ◌∙◌}
use mathlib.Core.Bool.{Bool, true, false, cond, ◌&&◌}
use mathlib.Core.List.{List, ◌∷◌}
use mathlib.Core.Option.{some}
use Prim.Native.Nat.{ℕ, zero, suc, ◌+◌, ◌-◌, ◌≤◌, ◌<◌}
use native.Mathlib.Decide.{ℕ_discrete}
use native.Mathlib.Numerals.{add-one}
use native.Mathlib.Omega.{arith}
use lib.Dec.{eqb, ltb}
use lib.ListN.{length, get_or, set, length-set}
use lib.Seq.{slice, slice-cons, get_or-set_same, get_or-set_other}
use borrow.Author.Tests.{lt-ltb, le-ltb, eq-eqb, ne_eqb}
use Rattle.lists.specs.Filled.{zeros}
use Rattle.lists.proofs.Filled.{zeros-at}
use Rattle.sparse.specs.Matrix.{Compressed, row_of, form}
use Rattle.sparse.proofs.Entries.{row-columns}
use Rattle.sparse.proofs.Rows.{form-row, form-starts}
use Rattle.elimination.specs.Structural.{size, leads, prefer, chosen}
use Rattle.factor_order.specs.Search.{row_in, RowStarts, PreferReady, Preferred, Chosen}

pub row_named : (x : ℕ) → (x ≡ 0 → ⊥) → row_in x ≡ some (x - 1)
row_named zero h = absurd (h refl)
row_named (suc i) h = ap some (let e : i ≡ suc i - 1 = omega arith in e)

-- ---- the cell of the column at which a row leads

abbrev entries_in : List ℕ → ℕ → ℕ
entries_in ss i = get_or ss (i + 1) 0 - get_or ss i 0

module _ (ss : List ℕ) (i x : ℕ) where
  pub preferred-first : x ≡ 0 → Preferred ss i x (i + 1)
  unfolding prefer
  preferred-first e = record { below = omega arith; row = λ A q. ap row_in (add-one i) ∙ ap (λ (y : ℕ). prefer A i (row_in y)) (sym e) }

  -- row i against the row that the cell names
  against : (A : Compressed) → A.starts ≡ ss → (x ≡ 0 → ⊥) → (t : Bool) → ltb (entries_in ss i) (entries_in ss (x - 1)) ≡ t
      → prefer A i (row_in x) ≡ cond t (some i) (some (x - 1))
  unfolding prefer
  against A q h t l =
      ap (prefer A i) (row_named x h)
      ∙ ap (λ (s : List ℕ). cond (ltb (entries_in s i) (entries_in s (x - 1))) (some i) (some (x - 1))) q
      ∙ ap (λ (b : Bool). cond b (some i) (some (x - 1))) l

  pub preferred-new : (x ≡ 0 → ⊥) → entries_in ss i < entries_in ss (x - 1) → Preferred ss i x (i + 1)
  preferred-new h l =
      record { below = omega arith; row = λ A q. ap row_in (add-one i) ∙ sym (against A q h true (lt-ltb (entries_in ss i) (entries_in ss (x - 1)) l)) }

  pub preferred-old : (x ≡ 0 → ⊥) → x ≤ i → entries_in ss (x - 1) ≤ entries_in ss i → Preferred ss i x x
  preferred-old h b l =
      record { below = omega arith; row = λ A q. row_named x h ∙ sym (against A q h false (le-ltb (entries_in ss i) (entries_in ss (x - 1)) l)) }

-- ---- what the form gives

module _ (p m : ℕ) (A : Compressed) (formed : form p m A ≡ true) (i : ℕ) (inside : i + 1 < length A.starts) where
  pub row_within : RowStarts A.starts i
  row_within = record { inside = inside; rising = (form-starts p m A.starts A.cols A.vals formed i inside).0 }

  module _ (some-entry : 0 < size A i) where
    abbrev start : ℕ
    start = get_or A.starts i 0

    abbrev stop : ℕ
    stop = get_or A.starts (i + 1) 0

    pub leftmost-stored : start < length A.cols
    leftmost-stored = omega (arith, (form-starts p m A.starts A.cols A.vals formed i inside).1)

    pub leftmost-below : get_or A.cols start 0 < m
    leftmost-below =
        omega (
          arith,
          ap (λ (l : List ℕ). get_or l 0 0) row,
          row-columns p m (row_of A.starts i A.cols) (row_of A.starts i A.vals) (form-row p m A.starts A.cols A.vals formed i) 0 (omega (arith, ap length row)),
        )
      where
        row : row_of A.starts i A.cols ≡ get_or A.cols start 0 ∷ slice (suc start) stop A.cols
        row = slice-cons start stop A.cols 0 (omega arith) (form-starts p m A.starts A.cols A.vals formed i inside).1

pub prefer-ready : (p m : ℕ) (A : Compressed) → form p m A ≡ true → (i : ℕ) → i + 1 < length A.starts → (x : ℕ) → x ≤ i → PreferReady A.starts i x
prefer-ready p m A formed i inside x b = record { rows = λ k h. row_within p m A formed k (omega arith); before = b }

-- ---- one row more

pub chosen-starts : (A : Compressed) (w : List ℕ) → w ≡ zeros (length w) → Chosen A 0 w
unfolding chosen
chosen-starts A w z = record { below = λ c. omega (arith, cell c); rows = λ c h. ap row_in (cell c) }
  where
    cell : (c : ℕ) → get_or w c 0 ≡ 0
    cell c = ap (λ (l : List ℕ). get_or l c 0) z ∙ zeros-at (length w) c

module _ (A : Compressed) (i : ℕ) (w : List ℕ) (s : Chosen A i w) where
  next : (c : ℕ) (t : Bool) → leads A i c ≡ t → chosen A c (i + 1) ≡ cond t (prefer A i (chosen A c i)) (chosen A c i)
  unfolding chosen
  next c t e = ap (chosen A c) (add-one i) ∙ ap (λ (b : Bool). cond b (prefer A i (chosen A c i)) (chosen A c i)) e

  -- it is empty, and leads nowhere
  pub consider-empty : size A i ≡ 0 → Chosen A (i + 1) w
  unfolding leads
  consider-empty e =
      record {
        below = λ c. omega (arith, s.below c);
        rows = λ c h. s.rows c h ∙ sym (next c false (ap (λ (b : Bool). b && eqb (get_or A.cols (get_or A.starts i 0) 0) c) (le-ltb 0 (size A i) (omega arith))));
      }

  -- it leads at column d
  module _ (d : ℕ) (some-entry : 0 < size A i) (column : d ≡ get_or A.cols (get_or A.starts i 0) 0) where
    led : (c : ℕ) → leads A i c ≡ eqb d c
    unfolding leads
    led c = ap (λ (b : Bool). b && eqb (get_or A.cols (get_or A.starts i 0) 0) c) (lt-ltb 0 (size A i) some-entry) ∙ ap (λ (k : ℕ). eqb k c) (sym column)

    pub consider-row : (y : ℕ) → d < length w → Preferred A.starts i (get_or w d 0) y → Chosen A (i + 1) (set w d y)
    consider-row y b q =
        record { below = λ c. below c (ℕ_discrete c d); rows = λ c h. row c (omega (arith, length-set w d y)) (ℕ_discrete c d) }
      where
        below : (c : ℕ) → Dec (c ≡ d) → get_or (set w d y) c 0 ≤ i + 1
        below c (yes e) = rw e (omega (arith, get_or-set_same w d y 0 b, q.below))
        below c (no e) = omega (arith, get_or-set_other w d c y 0 e, s.below c)

        row : (c : ℕ) → c < length w → Dec (c ≡ d) → row_in (get_or (set w d y) c 0) ≡ chosen A c (i + 1)
        row c h (yes e) =
            rw e
            (ap row_in (get_or-set_same w d y 0 b) ∙ q.row A refl ∙ ap (prefer A i) (s.rows d b) ∙ sym (next d true (led d ∙ eq-eqb d d refl)))
        row c h (no e) =
            ap row_in (get_or-set_other w d c y 0 e) ∙ s.rows c h ∙ sym (next c false (led c ∙ ne_eqb d c (λ k. e (sym k))))

-- A row whose columns are neighbours, added p - c times to a run of cells.
use mathlib.Core.Path.{◌≡◌, refl, sym, ap, subst, ◌∙◌}
use mathlib.Core.Bool.{true}
use mathlib.Core.List.{List, ◌++◌}
use Prim.Native.Nat.{ℕ, zero, suc, ◌+◌, ◌-◌, ◌*◌, ◌^◌, ◌≤◌, ◌<◌}
use native.Mathlib.Nat.{mul-le-mul}
use native.Mathlib.Decide.{ℕ_discrete, dec_lt}
use native.Mathlib.Omega.{arith}
use lib.ListN.{length, get_or, set, take, drop, length-set, length-drop, length-append, get_or-append}
use lib.Seq.{get_or-set_same, get_or-set_other, get_or-take, get_or-drop, get_or-append-add, length-take-le}
use Rattle.sparse.specs.Form.{rises_from}
use Rattle.sparse.specs.Row.{entry, Row}
use Rattle.sparse.specs.WorkingRow.{GrownBy, growth, GrowReady}
use Rattle.sparse.specs.Run.{RowAdded, Neighbours, RunReady, Added}
use Rattle.sparse.proofs.Entries.{rises-apart, row-columns, entry_at, entry_absent}
use Rattle.sparse.proofs.AddLaws.{growth-small, add-ready, added-grown}

-- room for a row more, after fewer than 2 ^ 32 rows
pub growth-room : (p t : ℕ) → t < 2 ^ 32 → p < 65536 → p * p + t * growth p ≤ 2 ^ 64 - 2 ^ 32
growth-room p t few small =
    let square : p * p ≤ 4294836225 = mul-le-mul {n₁ = p} {m₁ = p} {n₂ = 65535} {m₂ = 65535} (omega arith) (omega arith) in
    omega (arith, ap (λ (g : ℕ). t * g) (growth-small p small), mul-le-mul {n₁ = t + 1} {m₁ = p * p} {n₂ = 4294967296} {m₂ = 4294836225} (omega arith) square)

-- ---- the columns of a run

-- d places on, a column is d or more to the right
rises_by : (width low : ℕ) (cols : List ℕ) → rises_from width low cols ≡ true → (t d : ℕ) → t + d < length cols → get_or cols t 0 + d ≤ get_or cols (t + d) 0
rises_by width low cols h t zero g = omega (arith, ap (λ (i : ℕ). get_or cols i 0) (let q : t + 0 ≡ t = omega arith in q))
rises_by width low cols h t (suc d) g =
    omega (arith, rises_by width low cols h t d (omega arith), rises-apart width low cols (t + d) (t + suc d) h (omega arith) g)

-- place t is at most column t
pub row-place : (p width : ℕ) (cols vals : List ℕ) → Row p width cols vals → (t : ℕ) → t < length cols → t < width
row-place p width cols vals row t h =
    omega (arith, rises_by width 0 cols row.rising 0 t (omega arith), ap (λ (i : ℕ). get_or cols i 0) (let q : 0 + t ≡ t = omega arith in q), row-columns p width cols vals row t h)

-- where none is left out, column t is the first and t more
pub run-column : (p width : ℕ) (cols vals : List ℕ) → Row p width cols vals → Neighbours p cols → (t : ℕ) → t < length cols → get_or cols t 0 ≡ get_or cols 0 0 + t
run-column p width cols vals row n t h = go (length cols - 1 - t) (omega arith)
  where
    go : (d : ℕ) → t + d ≡ length cols - 1 → get_or cols t 0 ≡ get_or cols 0 0 + t
    go d e =
        omega (
          arith,
          rises_by width 0 cols row.rising 0 t (omega arith),
          ap (λ (i : ℕ). get_or cols i 0) (let q : 0 + t ≡ t = omega arith in q),
          rises_by width 0 cols row.rising t d (omega arith),
          ap (λ (i : ℕ). get_or cols i 0) e,
          n.ends,
        )

-- ---- the loop that adds

pub record Adding (d : ℕ) (vals w₀ w : List ℕ) (t : ℕ) : Type 0 where
  pub long : length w ≡ length w₀
  pub done : (i : ℕ) → i < t → i < length w₀ → get_or w i 0 ≡ get_or w₀ i 0 + d * get_or vals i 0
  pub rest : (i : ℕ) → t ≤ i → get_or w i 0 ≡ get_or w₀ i 0

pub adding-starts : (d : ℕ) (vals w : List ℕ) → Adding d vals w w 0
adding-starts d vals w = record { long = refl; done = λ i h g. absurd (omega arith); rest = λ i h. refl }

pub adding-turn : (d : ℕ) (vals w₀ w : List ℕ) (t x : ℕ) → t < length w → x ≡ get_or w t 0 + d * get_or vals t 0 → Adding d vals w₀ w t → Adding d vals w₀ (set w t x) (t + 1)
adding-turn d vals w₀ w t x h e s =
    record {
      long = length-set w t x ∙ s.long;
      done = λ i g k. at i g k (ℕ_discrete i t);
      rest = λ i g. get_or-set_other w t i x 0 (λ (q : i ≡ t). omega arith) ∙ s.rest i (omega arith);
    }
  where
    at : (i : ℕ) → i < t + 1 → i < length w₀ → Dec (i ≡ t) → get_or (set w t x) i 0 ≡ get_or w₀ i 0 + d * get_or vals i 0
    at i g k (yes q) = rw q (get_or-set_same w t x 0 h ∙ e ∙ ap (λ (y : ℕ). y + d * get_or vals t 0) (s.rest t (omega arith)))
    at i g k (no q) = get_or-set_other w t i x 0 q ∙ s.done i (omega arith) k

pub adding-ends : (d : ℕ) (vals w₀ w : List ℕ) (t : ℕ) → length w ≤ t → Adding d vals w₀ w t → Added d vals w₀ w
adding-ends d vals w₀ w t h s = record { long = s.long; sums = λ i g. s.done i (omega (arith, s.long)) g }

-- ---- the cells of a part that is lent and comes back as z

module _ (w z : List ℕ) (a n : ℕ) (long : length z ≡ n) (inside : a + n ≤ length w) where
  abbrev back : List ℕ
  back = take a w ++ (z ++ drop n (drop a w))

  front : length (take a w) ≡ a
  front = length-take-le a w (omega arith)

  past : (t : ℕ) → get_or back (a + t) 0 ≡ get_or (z ++ drop n (drop a w)) t 0
  past t = ap (λ (i : ℕ). get_or back (i + t) 0) (sym front) ∙ get_or-append-add (take a w) (z ++ drop n (drop a w)) t 0

  back-length : length back ≡ length w
  back-length = omega (arith, length-append (take a w) (z ++ drop n (drop a w)), front, length-append z (drop n (drop a w)), length-drop n (drop a w), length-drop a w)

  back-before : (j : ℕ) → j < a → get_or back j 0 ≡ get_or w j 0
  back-before j h = get_or-append (take a w) (z ++ drop n (drop a w)) 0 j (omega (arith, front)) ∙ get_or-take a w j 0 h

  back-within : (t : ℕ) → t < n → get_or back (a + t) 0 ≡ get_or z t 0
  back-within t h = past t ∙ get_or-append z (drop n (drop a w)) 0 t (omega arith)

  back-after : (t : ℕ) → get_or back (a + (n + t)) 0 ≡ get_or w (a + (n + t)) 0
  back-after t =
      past (n + t)
      ∙ ap (λ (i : ℕ). get_or (z ++ drop n (drop a w)) (i + t) 0) (sym long)
      ∙ get_or-append-add z (drop n (drop a w)) t 0
      ∙ get_or-drop n (drop a w) t 0
      ∙ get_or-drop a w (n + t) 0

-- ---- the values added to the lent part: the row added

module _ (p c : ℕ) (cols vals w : List ℕ) (ready : GrowReady p c cols vals w) (near : Neighbours p cols) where
  pub run_inside : get_or cols 0 0 + length cols ≤ length w
  run_inside = omega (arith, row-columns p (length w) cols vals ready.row (length cols - 1) (omega (arith, near.some)), near.ends)

  -- the lent part of n cells from place a on, and d = p - c
  module _ (a n d : ℕ) (ea : a ≡ get_or cols 0 0) (en : n ≡ length cols) (whole : d + c ≡ p) where
    part_length : length (take n (drop a w)) ≡ n
    part_length = length-take-le n (drop a w) (omega (arith, length-drop a w, run_inside))

    part-cell : (t : ℕ) → t < n → get_or (take n (drop a w)) t 0 ≡ get_or w (a + t) 0
    part-cell t h = get_or-take n (drop a w) t 0 h ∙ get_or-drop a w t 0

    entry_in : (t : ℕ) → t < n → d * entry cols vals (a + t) ≡ d * get_or vals t 0
    entry_in t h =
        ap (λ (x : ℕ). d * x)
        (ap (entry cols vals) (omega (arith, run-column p (length w) cols vals ready.row near t (omega arith)))
        ∙ entry_at (length w) 0 cols vals ready.row.rising t (omega arith) (omega (arith, ready.row.paired)))

    -- elsewhere the row has no entry
    entry-out : (j : ℕ) → ((t : ℕ) → t < n → a + t ≡ j → ⊥) → d * entry cols vals j ≡ 0
    entry-out j none =
        omega (arith, ap (λ (x : ℕ). d * x) (entry_absent cols vals j (λ t h e. none t (omega arith) (omega (arith, run-column p (length w) cols vals ready.row near t h)))))

    pub run-ready : RunReady d vals (take n (drop a w))
    run-ready =
        record {
          paired = omega (arith, part_length, ready.row.paired);
          room = λ t h. let g : t < n = omega (arith, part_length) in
              omega (arith, part-cell t g, entry_in t g, (add-ready p c d cols vals w ready near.small whole).room (a + t) (omega (arith, run_inside)));
        }

    module _ (z : List ℕ) (added : Added d vals (take n (drop a w)) z) where
      long : length z ≡ n
      long = added.long ∙ part_length

      room : a + n ≤ length w
      room = omega (arith, run_inside)

      abbrev CellSum : ℕ → Type 0
      CellSum j = get_or (back w z a n long room) j 0 ≡ get_or w j 0 + d * entry cols vals j

      sum-at : (j : ℕ) → CellSum j
      sum-at j = go (dec_lt j a) (dec_lt j (a + n))
        where
          place : (k : ℕ) → k ≡ j → CellSum k → CellSum j
          place k e = subst CellSum e

          go : Dec (j < a) → Dec (j < a + n) → CellSum j
          go (yes q) r = omega (arith, back-before w z a n long room j q, entry-out j (λ t g e. omega arith))
          go (no q) (yes r) =
              let t = j - a in
              let h : t < n = omega arith in
              place (a + t) (omega arith) (omega (arith, back-within w z a n long room t h, added.sums t (omega (arith, part_length)), part-cell t h, entry_in t h))
          go (no q) (no r) =
              let t = j - a - n in
              place (a + (n + t)) (omega arith) (omega (arith, back-after w z a n long room t, entry-out (a + (n + t)) (λ i g e. omega arith)))

      run-added : RowAdded d cols vals w (back w z a n long room)
      run-added = record { long = back-length w z a n long room; sums = λ j h. sum-at j }

    pub run-grown : (z : List ℕ) → Added d vals (take n (drop a w)) z → GrownBy p (growth p) (λ j. c * entry cols vals j) w (take a w ++ (z ++ drop n (drop a w)))
    run-grown z added = added-grown p c d cols vals w ready near.small whole _ (run-added z added)

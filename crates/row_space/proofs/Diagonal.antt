-- The last entry of row k of L, a lower triangle, is its diagonal entry.
use mathlib.Core.Path.{◌≡◌, sym, ap, ◌∙◌}
use mathlib.Core.Bool.{true}
use mathlib.Core.List.{List}
use Prim.Native.Nat.{ℕ, ◌+◌, ◌-◌, ◌≤◌, ◌<◌}
use native.Mathlib.Omega.{arith}
use native.Mathlib.Decide.{ℕ_discrete, dec_lt}
use lib.ListN.{length, get_or}
use lib.Seq.{slice, length-slice}
use Rattle.lists.proofs.Steps.{get_d-slice}
use Rattle.sparse.specs.Row.{entry, Row}
use Rattle.sparse.specs.Matrix.{Compressed, row_of, matrix, form}
use Rattle.sparse.proofs.Entries.{rises-at, values-at, entry_at, entry_absent, rises-apart}
use Rattle.sparse.proofs.Rows.{form-starts, form-row}
use Rattle.pluq.specs.Shape.{lower}
use Rattle.pluq.proofs.Shapes.{lower-means}

-- a sparse row whose entry at k is not 0, and 0 right of k: its last entry is the one at k
module _ (p width : ℕ) (cols vals : List ℕ) (k : ℕ) (row : Row p width cols vals)
    (here : entry cols vals k ≡ 0 → ⊥) (right : (l : ℕ) → k < l → l < width → entry cols vals l ≡ 0) where
  abbrev last : ℕ
  last = length cols - 1

  most : (t : ℕ) → t < length cols → get_or cols t 0 ≤ get_or cols last 0
  most t h = elim (ℕ_discrete t last) [
    | yes e ↦ rw e (omega arith)
    | no e ↦ omega (arith, rises-apart width 0 cols t last row.rising (omega arith) (omega arith))
  ]

  at_last : 0 < length cols → entry cols vals (get_or cols last 0) ≡ get_or vals last 0
  at_last h = entry_at width 0 cols vals row.rising last (omega arith) (omega (arith, row.paired))

  pub last_entry : (0 < length cols) × (get_or vals last 0 ≡ entry cols vals k)
  last_entry = go (dec_lt 0 (length cols))
    where
      column : 0 < length cols → Dec (get_or cols last 0 < k) → Dec (k < get_or cols last 0) → get_or cols last 0 ≡ k
      column h (yes b) d = absurd (here (entry_absent cols vals k (λ t g e. omega (arith, most t g))))
      column h (no b) (yes d) =
          let v = (values-at p vals row.nonzero last (omega (arith, row.paired))).0 in
          absurd (omega (arith, v, at_last h, right (get_or cols last 0) d (rises-at width 0 cols row.rising last (omega arith)).1))
      column h (no b) (no d) = omega arith

      go : Dec (0 < length cols) → (0 < length cols) × (get_or vals last 0 ≡ entry cols vals k)
      go (yes h) = (h, sym (at_last h) ∙ ap (entry cols vals) (column h (dec_lt (get_or cols last 0) k) (dec_lt k (get_or cols last 0))))
      go (no h) = absurd (here (entry_absent cols vals k (λ t g. absurd (omega arith))))

-- where it stands: before the place e at which the next row begins
pub diagonal-last : (p r : ℕ) (L : Compressed) (k e : ℕ) → form p r L ≡ true → lower r (matrix L) ≡ true → k < r → k + 1 < length L.starts → e ≡ get_or L.starts (k + 1) 0
    → (0 < e) × (e ≤ length L.cols) × (get_or L.vals (e - 1) 0 ≡ matrix L k k)
diagonal-last p r L k e f shaped h g q =
    let s = form-starts p r L.starts L.cols L.vals f k g in
    let a = get_or L.starts k 0 in
    let b = get_or L.starts (k + 1) 0 in
    let shape = lower-means r (matrix L) shaped in
    let (some, value) = last_entry p r (row_of L.starts k L.cols) (row_of L.starts k L.vals) k (form-row p r L.starts L.cols L.vals f k) (shape.diagonal k h) (λ l c d. shape.above k l c d) in
    let long : length (slice a b L.cols) ≡ b - a = length-slice a b L.cols s.1 in
    let place : a + (length (slice a b L.cols) - 1) ≡ e - 1 = omega arith in (
      omega arith,
      omega (arith, s.1),
      ap (λ (t : ℕ). get_or L.vals t 0) (sym place) ∙ sym (get_d-slice a b L.vals (length (slice a b L.cols) - 1) (omega arith)) ∙ value,
    )

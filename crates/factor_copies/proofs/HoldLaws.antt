-- A row that is copied.
use mathlib.Core.Path.{◌≡◌, sym, ap, ap₂, ◌∙◌}
use mathlib.Core.Bool.{true}
use mathlib.Core.List.{List}
use Prim.Native.Nat.{ℕ, ◌+◌, ◌-◌, ◌≤◌, ◌<◌}
use native.Mathlib.Decide.{ℕ_discrete, dec_lt}
use native.Mathlib.Omega.{arith}
use lib.ListN.{length, get_or, set, length-set}
use lib.Seq.{get_or-set_same, get_or-set_other}
use Rattle.algebra.specs.Matrix.{Matrix}
use Rattle.sparse.specs.Form.{rises_from}
use Rattle.sparse.specs.Row.{entry, Row}
use Rattle.sparse.specs.Matrix.{Compressed, row_of}
use Rattle.sparse.proofs.Entries.{rises-at, rises-apart, entry_absent}
use Rattle.factor_copies.specs.Copies.{CopyKept, Keeping, HoldReady, RowHeld}
use Rattle.factor_copies.specs.Spreading.{SpreadReady, Spread, Worth, CopyRowReady, RowCopied}
use Rattle.factor_copies.proofs.CopyLaws.{not-held}

-- no column is before the first
pub first-lowest : (width : ℕ) (cols : List ℕ) → rises_from width 0 cols ≡ true → (t : ℕ) → t < length cols → get_or cols 0 0 ≤ get_or cols t 0
first-lowest width cols h t b = go (ℕ_discrete t 0)
  where
    go : Dec (t ≡ 0) → get_or cols 0 0 ≤ get_or cols t 0
    go (yes q) = omega (arith, ap (λ (i : ℕ). get_or cols i 0) q)
    go (no q) = omega (arith, rises-apart width 0 cols 0 t h (omega (arith, q)) b)

module _ (p r m : ℕ) (U : Matrix) (fill : ℕ) (cols vals copies₀ copies : List ℕ) (next : ℕ) (small : p < 65536) (ready : CopyRowReady r m fill cols vals copies₀)
    (row : (j : ℕ) → U r j ≡ entry cols vals j) (done : RowCopied r m fill cols vals copies₀ copies next) (k₀ : Keeping p r m U fill copies₀) where
  abbrev low : ℕ
  low = get_or cols 0 0

  wide : low < m
  wide = (rises-at m 0 cols ready.rising 0 ready.some).1

  -- past the last column nothing stands
  past : (s : ℕ) → m ≤ low + s → entry cols vals (low + s) ≡ 0
  past s h = entry_absent cols vals (low + s) (λ t b e. omega (arith, e, (rises-at m 0 cols ready.rising t b).1))

  new : CopyKept p m (U r) fill low next copies
  new =
      record {
        copy = record {
          small = small;
          wide = omega (arith, wide);
          inside = omega (arith, done.long, ready.room);
          left = λ j h. row j ∙ entry_absent cols vals j (λ t b e. omega (arith, e, first-lowest m cols ready.rising t b));
          right = λ t h. done.cells k₀.clear t ∙ sym (row (low + t));
        };
        begins = ready.low;
        ends = omega (arith, done.end);
      }

  -- an earlier copy is where it was
  earlier : (k : ℕ) → k < r → (at wide' : ℕ) → CopyKept p m (U k) at wide' fill copies₀ → CopyKept p m (U k) at wide' next copies
  earlier k h at low' c =
      record {
        copy = record {
          small = small;
          wide = c.copy.wide;
          inside = omega (arith, done.long, c.copy.inside);
          left = c.copy.left;
          right = λ t b. done.front (at + t) (omega (arith, c.ends)) (λ (e : at + t ≡ r). omega (arith, c.begins, ready.row)) (λ (e : at + t ≡ 2048 + r). omega (arith, c.begins, ready.row)) ∙ c.copy.right t b;
        };
        begins = c.begins;
        ends = omega (arith, c.ends, done.end);
      }

  pub row-held : Keeping p (r + 1) m U next copies
  row-held =
      record {
        many = omega (arith, ready.row);
        low = omega (arith, ready.low, done.end);
        room = omega (arith, done.end, done.long, ready.room);
        clear = λ i h. clear i (i - fill) (omega (arith, done.end)) h;
        later = λ k h g. done.front k (omega (arith, ready.low)) (λ (e : k ≡ r). omega arith) (λ (e : k ≡ 2048 + r). omega arith) ∙ k₀.later k (omega arith) g;
        each = λ k h some. each k h some (dec_lt k r);
      }
    where
      clear : (i s : ℕ) → fill + s ≡ i → next ≤ i → get_or copies i 0 ≡ 0
      clear i s e h = ap (λ (x : ℕ). get_or copies x 0) (sym e) ∙ done.cells k₀.clear s ∙ past s (omega (arith, done.end, wide))

      each : (k : ℕ) → k < r + 1 → ¬ (get_or copies k 0 ≡ 0) → Dec (k < r) → CopyKept p m (U k) (get_or copies k 0) (get_or copies (2048 + k) 0) next copies
      each k h some (yes q) =
          let place : get_or copies k 0 ≡ get_or copies₀ k 0 = done.front k (omega (arith, ready.low, ready.row)) (λ (e : k ≡ r). omega arith) (λ (e : k ≡ 2048 + r). omega arith) in
          let column : get_or copies (2048 + k) 0 ≡ get_or copies₀ (2048 + k) 0 =
          done.front (2048 + k) (omega (arith, ready.low, ready.row)) (λ (e : 2048 + k ≡ r). omega (arith, ready.row)) (λ (e : 2048 + k ≡ 2048 + r). omega arith) in
          rw (place, column) (earlier k q _ _ (k₀.each k q (λ z. some (place ∙ z))))
      each k h some (no q) = last k (omega arith)
        where
          last : (x : ℕ) → x ≡ r → CopyKept p m (U x) (get_or copies x 0) (get_or copies (2048 + x) 0) next copies
          last x e = rw (e, done.place, done.column) new

-- ---- the steps of copying

module _ (r m fill : ℕ) (cols vals copies₀ : List ℕ) (ready : CopyRowReady r m fill cols vals copies₀) (low : ℕ) (el : low ≡ get_or cols 0 0) where
  pub first-inside : low < m
  first-inside = omega (arith, (rises-at m 0 cols ready.rising 0 ready.some).1)

  abbrev marked : List ℕ
  marked = set (set copies₀ r fill) (2048 + r) low

  marked-long : length marked ≡ length copies₀
  marked-long = length-set (set copies₀ r fill) (2048 + r) low ∙ length-set copies₀ r fill

  marked_other : (i : ℕ) → ¬ (i ≡ r) → ¬ (i ≡ 2048 + r) → get_or marked i 0 ≡ get_or copies₀ i 0
  marked_other i a b = get_or-set_other (set copies₀ r fill) (2048 + r) i low 0 b ∙ get_or-set_other copies₀ r i fill 0 a

  pub copy-spreads : SpreadReady low fill cols vals marked
  copy-spreads =
      record {
        width = m;
        paired = ready.paired;
        rising = ready.rising;
        first = λ t h. omega (arith, first-lowest m cols ready.rising t h);
        room = λ t h. omega (arith, first-lowest m cols ready.rising t h, (rises-at m 0 cols ready.rising t h).1, ready.room, marked-long);
      }

  module _ (copies : List ℕ) (spread : Spread low fill cols vals marked copies) where
    pub copy-long : length copies ≡ length copies₀
    copy-long = spread.long ∙ marked-long

    pub copy-copied : RowCopied r m fill cols vals copies₀ copies (fill + (m - low))
    copy-copied =
        record {
          long = copy-long;
          end = ap (λ (x : ℕ). fill + (m - x)) el;
          place = spread.front r (omega (arith, ready.row, ready.low))
              ∙ get_or-set_other (set copies₀ r fill) (2048 + r) r low 0 (λ (e : r ≡ 2048 + r). omega arith)
              ∙ get_or-set_same copies₀ r fill 0 (omega (arith, ready.row, ready.low, ready.room));
          column = spread.front (2048 + r) (omega (arith, ready.row, ready.low))
              ∙ get_or-set_same (set copies₀ r fill) (2048 + r) low 0 (omega (arith, ready.row, ready.low, ready.room, length-set copies₀ r fill))
              ∙ el;
          front = λ i h a b. spread.front i h ∙ marked_other i a b;
          cells = λ clear s. spread.cells (λ i h. marked_other i (λ (e : i ≡ r). omega (arith, ready.low, ready.row)) (λ (e : i ≡ 2048 + r). omega (arith, ready.low, ready.row)) ∙ clear i h) s
              ∙ ap (λ (x : ℕ). entry cols vals (x + s)) el;
        }

-- ---- the row that a turn found

module _ (p r found m fill : ℕ) (M : Compressed) (copies₀ : List ℕ) (ready : HoldReady p r found m fill M copies₀) where
  -- it is not copied
  pub hold-none : RowHeld p r found m fill M copies₀ copies₀ fill
  hold-none U e k = not-held p r found m U fill copies₀ ready.grown.0 ready.grown.1 ready.many k

  -- it is copied
  module _ (some : r < found) (cols vals : List ℕ) (ec : cols ≡ row_of M.starts r M.cols) (ev : vals ≡ row_of M.starts r M.vals) (worth : Worth p cols m (length copies₀ - fill)) where
    row : Row p m cols vals
    row = rw (ec, ev) (ready.row some)

    pub hold-ready : CopyRowReady r m fill cols vals copies₀
    hold-ready =
        record {
          row = omega (arith, ready.many);
          narrow = ready.narrow;
          low = ready.low;
          some = worth.some;
          paired = row.paired;
          rising = row.rising;
          room = omega (arith, worth.fits, ready.room);
          small = ready.small;
        }

    pub hold-copied : (copies : List ℕ) (next : ℕ) → RowCopied r m fill cols vals copies₀ copies next → RowHeld p r found m fill M copies₀ copies next
    hold-copied copies next done U e k =
        rw (let q : found ≡ r + 1 = omega (arith, ready.grown.1) in q)
        (row-held p r m U fill cols vals copies₀ copies next worth.small hold-ready (λ j. e some j ∙ ap₂ (λ (x y : List ℕ). entry x y j) (sym ec) (sym ev)) done k)

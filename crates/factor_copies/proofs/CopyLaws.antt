-- Copies of rows, as they are read and as they are made.
use mathlib.Core.Path.{◌≡◌, sym, ◌∙◌}
use mathlib.Core.List.{List}
use Prim.Native.Nat.{ℕ, ◌+◌, ◌≤◌, ◌<◌}
use native.Mathlib.Decide.{dec_lt}
use native.Mathlib.Omega.{arith}
use lib.ListN.{length, get_or}
use Rattle.algebra.specs.Matrix.{Vector, Matrix}
use Rattle.factor_copies.specs.Copies.{CopyAt, CopiedRows, CopyKept, Keeping}

-- ---- the same row by another name

pub copied-same : (p m : ℕ) (u v : Vector) (at low : ℕ) (copies : List ℕ) → ((j : ℕ) → u j ≡ v j) → CopyAt p m u at low copies → CopyAt p m v at low copies
copied-same p m u v at low copies e c = record { small = c.small; wide = c.wide; inside = c.inside; left = λ j h. sym (e j) ∙ c.left j h; right = λ t h. c.right t h ∙ e (low + t) }

pub copied-rows-same : (p r m : ℕ) (U W : Matrix) (copies : List ℕ) → ((k j : ℕ) → k < r → U k j ≡ W k j) → CopiedRows p r m U copies → CopiedRows p r m W copies
copied-rows-same p r m U W copies e c k h = record { row = (c k h).row; long = (c k h).long; copy = λ some. copied-same p m (U k) (W k) _ _ copies (λ j. e k j h) ((c k h).copy some) }

pub keeping-same : (p r m : ℕ) (U W : Matrix) (fill : ℕ) (copies : List ℕ) → ((k j : ℕ) → k < r → U k j ≡ W k j) → Keeping p r m U fill copies → Keeping p r m W fill copies
keeping-same p r m U W fill copies e c =
    record {
      many = c.many;
      low = c.low;
      room = c.room;
      clear = c.clear;
      later = c.later;
      each = λ k h some. let x = c.each k h some in record { copy = copied-same p m (U k) (W k) _ _ copies (λ j. e k j h) x.copy; begins = x.begins; ends = x.ends };
    }

-- ---- what is kept can be read

pub keeping-rows : (p r m : ℕ) (U : Matrix) (fill : ℕ) (copies : List ℕ) → Keeping p r m U fill copies → CopiedRows p r m U copies
keeping-rows p r m U fill copies c k h = record { row = omega (arith, c.many); long = omega (arith, c.low, c.room); copy = λ some. (c.each k h some).copy }

-- ---- before the first row

pub keeping_none : (p r m : ℕ) (U : Matrix) (copies : List ℕ) → r ≤ 2048 → 4096 ≤ length copies → ((i : ℕ) → get_or copies i 0 ≡ 0) → Keeping p r m U 4096 copies
keeping_none p r m U copies many long zero =
    record {
      many = many;
      low = omega arith;
      room = long;
      clear = λ i h. zero i;
      later = λ k h g. zero k;
      each = λ k h some. absurd (some (zero k));
    }

-- ---- a row that is not copied

pub not-held : (p r found m : ℕ) (U : Matrix) (fill : ℕ) (copies : List ℕ) → r ≤ found → found ≤ r + 1 → found ≤ 2048 → Keeping p r m U fill copies → Keeping p found m U fill copies
not-held p r found m U fill copies up most many c =
    record {
      many = many;
      low = c.low;
      room = c.room;
      clear = c.clear;
      later = λ k h g. c.later k (omega arith) g;
      each = λ k h some. go k h some (dec_lt k r);
    }
  where
    go : (k : ℕ) → k < found → ¬ (get_or copies k 0 ≡ 0) → Dec (k < r) → CopyKept p m (U k) (get_or copies k 0) (get_or copies (2048 + k) 0) fill copies
    go k h some (yes q) = c.each k q some
    go k h some (no q) = absurd (some (c.later k (omega arith) (omega arith)))

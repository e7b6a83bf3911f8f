-- A multiple of a row taken away by its copy.
use mathlib.Core.Path.{◌≡◌, sym, ap, ◌∙◌, subst₂}
use mathlib.Core.List.{List}
use Prim.Native.Nat.{ℕ, ◌+◌, ◌-◌, ◌*◌, ◌<◌}
use native.Mathlib.Decide.{dec_lt}
use native.Mathlib.Omega.{arith}
use lib.ListN.{length, get_or, take}
use lib.Seq.{slice, length-slice, get_or-drop, get_or-take}
use Rattle.algebra.specs.Matrix.{Vector}
use Rattle.sparse.specs.Matrix.{Compressed, matrix}
use Rattle.sparse.specs.WorkingRow.{GrownBy, growth}
use Rattle.sparse.specs.Run.{FromReady, AddedFrom}
use Rattle.sparse.proofs.Rows.{form-below}
use Rattle.sparse.proofs.AddLaws.{vector-room, vector-grown}
use Rattle.factor_copies.specs.Copies.{CopyAt, RowCopy, CopyTakeReady}

-- a copy where its place and its first column were read
pub copy_at : (p m : ℕ) (u : Vector) (k : ℕ) (copies : List ℕ) → RowCopy p m u k copies → (at low : ℕ) → at ≡ get_or copies k 0 → low ≡ get_or copies (2048 + k) 0 → ¬ (at ≡ 0) → CopyAt p m u at low copies
copy_at p m u k copies h at low ea el some = subst₂ (λ (a b : ℕ). CopyAt p m u a b copies) (sym ea) (sym el) (h.copy (λ z. some (ea ∙ z)))

-- the copy of row k is the part of the list from place `at` up to `end`, and d = p - c
module _ (p k c d : ℕ) (M : Compressed) (copies w : List ℕ) (h : CopyTakeReady p k c M copies w) (at low end : ℕ) (copy : CopyAt p (length w) (matrix M k) at low copies)
    (last : end ≡ at + (length w - low)) (whole : d + c ≡ p) where
  abbrev cells : List ℕ
  cells = slice at end copies

  many : length cells ≡ length w - low
  many = omega (arith, length-slice at end copies (omega (arith, copy.inside)))

  pub cell : (t : ℕ) → low + t < length w → get_or cells t 0 ≡ matrix M k (low + t)
  cell t b = get_or-drop at (take end copies) t 0 ∙ get_or-take end copies (at + t) 0 (omega arith) ∙ copy.right t b

  residue : (j : ℕ) → matrix M k j < p
  residue j = form-below p (length w) M.starts M.cols M.vals h.grow.formed k j (omega (arith, h.grow.residue))

  pub copy-ready : FromReady d low cells w
  copy-ready =
      record {
        inside = omega (arith, many, copy.wide);
        room = λ t b. let i : low + t < length w = omega (arith, many) in
            omega (arith, ap (λ (x : ℕ). d * x) (cell t i), vector-room p c d (matrix M k) w copy.small h.grow.some whole residue (low + t) (h.grow.room copy.small (low + t) i));
      }

  pub copy-grown : (z : List ℕ) → AddedFrom d low cells w z → GrownBy p (growth p) (λ j. c * matrix M k j) w z
  copy-grown z added = vector-grown p c d (matrix M k) w copy.small h.grow.some whole residue z added.long (λ j b. go j b (dec_lt j low))
    where
      go : (j : ℕ) → j < length w → Dec (j < low) → get_or z j 0 ≡ get_or w j 0 + d * matrix M k j
      go j b (yes q) = omega (arith, added.left j q, ap (λ (x : ℕ). d * x) (copy.left j q))
      go j b (no q) = at_place (j - low) (omega arith)
        where
          at_place : (t : ℕ) → low + t ≡ j → get_or z j 0 ≡ get_or w j 0 + d * matrix M k j
          at_place t e = rw (sym e) (omega (arith, added.sums t (omega (arith, many)), ap (λ (x : ℕ). d * x) (cell t (omega arith))))

-- A verdict is what the line is, 5 left aside, and then 5.
use mathlib.Core.Path.{◌≡◌, refl}
use mathlib.Core.Bool.{Bool, true, false, cond, ◌&&◌, not}
use Prim.Native.Nat.{ℕ}
use lib.Dec.{eqb}
use Rattle.lists.proofs.Bools.{and_left, and_right}
use Rattle.text_fields.specs.declared.numbers.Signed.{Signed}
use Rattle.std.specs.Prelude.{Option, Some, None}
use Rattle.text_judge.specs.Line.{with_signed}
use Rattle.text_judge.specs.Judge.{Refused, Last, Entry, judge_line, in_range, residue_at, is_last, within}
use Rattle.text_judge.specs.declared.line.Triple.{Triple}
use Rattle.text_judge.specs.declared.judge.Sizes.{Sizes}
use Rattle.text_judge.specs.Sight.{Sight, Stops, Finishes, Stands, Fails, sight, judged_from}

pub judged-sight : (b full : Bool) (s : Sizes) (l : Option Triple) → judge_line b full s l ≡ judged_from b (sight full s l)
unfolding judge_line sight
judged-sight b full s None = refl
judged-sight b full s (Some l) =
    go (is_last l.i l.j l.v) (within l.i s.n && within l.j s.m) (in_range l.v) (not (eqb (residue_at s.modulus.p l.v) 0) && full) (residue_at s.modulus.p l.v)
  where
    go : (x y z w : Bool) (r : ℕ)
        → cond x Last (cond y (cond b (cond z (cond w (Refused 7) (Entry l.i l.j r)) (Refused 6)) (Refused 5)) (Refused 4))
        ≡ judged_from b (cond x Finishes (cond y (cond z (cond w (Fails 7 l.i l.j) (Stands l.i l.j r)) (Fails 6 l.i l.j)) (Stops 4)))
    go true y z w r = refl
    go false false z w r = refl
    go false true false w r = refl
    go false true true true r = refl
    go false true true false r = refl

-- the line of a triple that 3 and 4 pass
pub record Placed (s : Sizes) (l : Option Triple) (i j : ℕ) : Type 0 where
  pub sign : Signed
  pub line : l ≡ with_signed i j (Some sign)
  pub row_inside : within i s.n ≡ true
  pub column-inside : within j s.m ≡ true

abbrev pub Places : Sizes → Option Triple → Sight → Type 0
Places s l (Stops c) = Unit {0}
Places s l Finishes = Unit {0}
Places s l (Stands i j v) = Placed s l i j
Places s l (Fails c i j) = Placed s l i j

pub sight-places : (full : Bool) (s : Sizes) (l : Option Triple) → Places s l (sight full s l)
unfolding sight
sight-places full s None = tt
sight-places full s (Some l) =
    go (is_last l.i l.j l.v) (within l.i s.n && within l.j s.m) (in_range l.v) (not (eqb (residue_at s.modulus.p l.v) 0) && full) (residue_at s.modulus.p l.v) refl
  where
    go : (x y z w : Bool) (r : ℕ) → (within l.i s.n && within l.j s.m) ≡ y
        → Places s (Some l) (cond x Finishes (cond y (cond z (cond w (Fails 7 l.i l.j) (Stands l.i l.j r)) (Fails 6 l.i l.j)) (Stops 4)))
    go true y z w r e = tt
    go false false z w r e = tt
    go false true z w r e = both z w
      where
        it : Placed s (Some l) l.i l.j
        it = record { sign = l.v; line = refl; row_inside = and_left (within l.i s.n) (within l.j s.m) e; column-inside = and_right (within l.i s.n) (within l.j s.m) e }

        both : (z w : Bool) → Places s (Some l) (cond z (cond w (Fails 7 l.i l.j) (Stands l.i l.j r)) (Fails 6 l.i l.j))
        both false w = it
        both true true = it
        both true false = it

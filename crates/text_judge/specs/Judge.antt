-- What a line is judged to be.
--   Verdict               refused by a number, the last line, or the entry v at i and j
--   verdict_of r          the verdict that a result is
--   in_range v            v lies from -2,147,483,648 to 2,147,483,647
--   residue_at p v        v modulo p
--   is_last i j v         the line is `0 0 0`
--   is_zero v             v is `0`
--   entry_if u i j v      the entry, or 7 where u says that the storage is used up and v is to be stored
--   within i n           i lies from 1 to n
--   precedes a b i j     a and b stand before i and j: by row, then by column
--   may_stand free l      the line l may stand where it says, as `free` tells of a place
--   judge_line f u s l    the verdict on the line l of a plan with the sizes s, where f says whether it may stand here and u
--                        whether the entry storage is used up: 3, then 4, 5, 6, 7
use Rattle.std.specs.Prelude.{ℕ, Bool, false, cond, ◌&&◌, ◌||◌, not, eqb, ltb, leb, Option, Some, None, Result, Ok, Err}
use Rattle.refusals.specs.Table.{malformed, outside_plan, repeated_place, value_out_of_range, storage_too_short}
use Rattle.text_fields.specs.Number.{is_negative, magnitude}
use Rattle.text_fields.specs.declared.numbers.Signed.{Signed}
use Rattle.text_fields.specs.declared.numbers.Signed.TheVariants.{Plus, Minus}
use Rattle.residue.specs.Signed.{signed_residue}
use Rattle.refusals.specs.Faults.{number}
use Rattle.refusals.specs.declared.Fault.{Fault}
use Rattle.text_judge.specs.declared.line.Triple.{Triple}
use Rattle.text_judge.specs.declared.judge.Sizes.{Sizes}
use Rattle.text_judge.specs.declared.judge.Judged.{Judged}
use Rattle.text_judge.specs.declared.judge.Judged.TheVariants as judged

pub data Verdict : Type 0 where
  Refused : ℕ → Verdict
  Last : Verdict
  Entry : ℕ → ℕ → ℕ → Verdict

abbrev pub verdict_of : Result Judged Fault → Verdict
verdict_of (Err fault) = Refused (number fault)
verdict_of (Ok judged.Last) = Last
verdict_of (Ok (judged.Entry i j v)) = Entry i j v

abbrev pub in_range : Signed → Bool
in_range (Plus n) = leb n 2147483647
in_range (Minus n) = leb n 2147483648

abbrev pub residue_at : ℕ → Signed → ℕ
residue_at p v = signed_residue p (is_negative v) (magnitude v)

abbrev pub is_zero : Signed → Bool
is_zero (Plus n) = eqb n 0
is_zero (Minus n) = false

abbrev pub is_last : ℕ → ℕ → Signed → Bool
is_last i j v = eqb i 0 && eqb j 0 && is_zero v

abbrev pub within : ℕ → ℕ → Bool
within i n = leb 1 i && leb i n

abbrev pub precedes : ℕ → ℕ → ℕ → ℕ → Bool
precedes a b i j = ltb a i || (eqb a i && ltb b j)

abbrev pub may_stand : (ℕ → ℕ → Bool) → Option Triple → Bool
may_stand free (Some l) = free l.i l.j
may_stand free None = false

-- a value that is stored, one that is not 0, needs room
abbrev pub entry_if : Bool → ℕ → ℕ → ℕ → Verdict
entry_if full i j v = cond (not (eqb v 0) && full) (Refused storage_too_short) (Entry i j v)

unfoldable pub judge_line : Bool → Bool → Sizes → Option Triple → Verdict
judge_line stands full s None = Refused malformed
judge_line stands full s (Some l) =
    cond (is_last l.i l.j l.v) Last
    (cond (within l.i s.n && within l.j s.m)
    (cond stands
    (cond (in_range l.v)
    (entry_if full l.i l.j (residue_at s.modulus.p l.v))
    (Refused value_out_of_range))
    (Refused repeated_place))
    (Refused outside_plan))

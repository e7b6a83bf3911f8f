-- What a line is, 5 left aside: collecting needs the places of all lines before it can tell which of them is taken twice.
--   Sight              refused by a number, the last line, a triple v at i and j, or one at i and j that a number refuses
--   seen_as r          what a line is that code sees as r
--   stands_if u i j v   the triple, or 7 where u says that the storage is used up and v is to be stored
--   sight u s l        3 or 4, the last line, a triple that may be stored, or one that 6 or 7 refuses
--   judged_from b g     the verdict, where b says whether the line may stand here: 5 precedes 6 and 7
use Rattle.std.specs.Prelude.{ℕ, Bool, cond, ◌&&◌, not, eqb, Option, Some, None}
use Rattle.refusals.specs.Table.{malformed, outside_plan, repeated_place, value_out_of_range, storage_too_short}
use Rattle.text_judge.specs.Judge.{Verdict, Refused, Last, Entry, in_range, residue_at, is_last, within}
use Rattle.refusals.specs.Faults.{number}
use Rattle.text_judge.specs.declared.line.Triple.{Triple}
use Rattle.text_judge.specs.declared.judge.Sizes.{Sizes}
use Rattle.text_judge.specs.declared.sight.Sight.{Sight as Seen}
use Rattle.text_judge.specs.declared.sight.Sight.TheVariants as seen

pub data Sight : Type 0 where
  Stops : ℕ → Sight
  Finishes : Sight
  Stands : ℕ → ℕ → ℕ → Sight
  Fails : ℕ → ℕ → ℕ → Sight

abbrev pub seen_as : Seen → Sight
seen_as (seen.Stops fault) = Stops (number fault)
seen_as seen.Finishes = Finishes
seen_as (seen.Stands i j v) = Stands i j v
seen_as (seen.Fails fault i j) = Fails (number fault) i j

abbrev pub stands_if : Bool → ℕ → ℕ → ℕ → Sight
stands_if full i j v = cond (not (eqb v 0) && full) (Fails storage_too_short i j) (Stands i j v)

unfoldable pub sight : Bool → Sizes → Option Triple → Sight
sight full s None = Stops malformed
sight full s (Some l) =
    cond (is_last l.i l.j l.v) Finishes
    (cond (within l.i s.n && within l.j s.m)
    (cond (in_range l.v)
    (stands_if full l.i l.j (residue_at s.modulus.p l.v))
    (Fails value_out_of_range l.i l.j))
    (Stops outside_plan))

abbrev pub judged_from : Bool → Sight → Verdict
judged_from b (Stops c) = Refused c
judged_from b Finishes = Last
judged_from b (Stands i j v) = cond b (Entry i j v) (Refused repeated_place)
judged_from b (Fails c i j) = cond b (Refused c) (Refused repeated_place)

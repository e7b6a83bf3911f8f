-- Fields that are numbers, read in one pass. A digit is a byte from 48 to 57.
--   field_of n end       the number n of a field, with the place after it
--   field_at s l from    the number that the field from a place on says, where s separates fields
--   Limit size from r   a run of digits from a place on ends at r at the latest: after ten, or at the line's end
--   well_written b n     n digits, of which b is the first, write a number: at least one, and no zero before others
--   Digit b             the byte b is a digit
--   DigitRun l from v e the digits of l from a place on, ten at most, say v and end at e: whatever separates fields and is no
--                       digit, the piece from there on is those digits and the piece from e on
use Rattle.std.specs.Prelude.{ℕ, ◌+◌, ◌-◌, ◌≤◌, ◌<◌, ◌≡◌, List, Bool, ◌&&◌, ◌||◌, not, length, get_or, eqb, Option, Some, None}
use Rattle.text_fields.specs.Scan.{piece_from, size_from}
use Rattle.text_fields.specs.Number.{digits_from, number_in}
use Rattle.text_fields.specs.declared.runs.Field.{Field}

abbrev pub field_of : Option ℕ → ℕ → Option Field
field_of (Some n) end = Some (record { n = n; end = end })
field_of None end = None

abbrev pub field_at : ℕ → List ℕ → ℕ → Option Field
field_at s l from = field_of (number_in (piece_from s l from)) (from + size_from s l from)

pub record Limit (size from r : ℕ) : Type 0 where
  pub least : from ≤ r
  pub inside : r ≤ size
  pub most : r ≤ from + 10
  pub reached : r < size → r ≡ from + 10

abbrev pub well_written : ℕ → ℕ → Bool
well_written b n = not (eqb n 0) && (not (eqb b 48) || eqb n 1)

abbrev pub Digit : ℕ → Type 0
Digit b = (48 ≤ b) × (b ≤ 57)

pub record DigitRun (l : List ℕ) (from v e : ℕ) : Type 0 where
  pub least : from ≤ e
  pub inside : e ≤ length l
  pub most : e ≤ from + 10
  pub stops : e < length l → e < from + 10 → ¬ (Digit (get_or l e 0))
  pub long : (s : ℕ) → s < 48 → size_from s l from ≡ (e - from) + size_from s l e
  pub says : (s : ℕ) → s < 48 → digits_from 0 (piece_from s l from) ≡ digits_from v (piece_from s l e)

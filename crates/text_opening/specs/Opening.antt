-- The first two lines of a plan's text, and what they lead to.
--   Limits              the place and number of a line of a text that is not too long, and sizes within their limits
--   Second              what reading the second line starts from
--   after_open, Bounded  what the first two lines lead to, and the limits that sizes which were read keep
use Rattle.std.specs.Prelude.{ℕ, ◌+◌, ◌≤◌, ◌≡◌, List, [], Bool, true, length, drop, Result, Ok, Err}
use Rattle.residue.specs.Range.{is_modulus}
use Rattle.text_fields.specs.Pieces.{pieces}
use Rattle.text_lines.specs.declared.Place.{Place}
use Rattle.limits.specs.Limits.{largest_size, largest_text}
use Rattle.text_judge.specs.declared.judge.Sizes.{Sizes}
use Rattle.text_opening.specs.Reading.{Entry, ReadResult, refused, triples}
use Rattle.text_opening.specs.declared.opening.Opened.{Opened}
use Rattle.refusals.specs.declared.Refusal.{Refusal}
use Rattle.refusals.specs.Faults.{number}

-- sizes that were read, and the line to read next. Each line before it has at least its line feed, so its number fits in 32 bits
pub record Limits (text : List ℕ) (s : Sizes) (next : Place) : Type 0 where
  pub place : next.at ≤ length text
  pub numbered : next.line ≤ next.at + 1
  pub short : length text ≤ largest_text
  pub modulus : is_modulus s.modulus.p ≡ true
  pub n-limit : s.n ≤ largest_size
  pub m-limit : s.m ≤ largest_size

pub record Second (text : List ℕ) (second : Place) (p : ℕ) : Type 0 where
  pub place : second.at ≤ length text
  pub numbered : second.line ≤ second.at + 1
  pub number_is : second.line ≡ 2
  pub short : length text ≤ largest_text
  pub modulus : is_modulus p ≡ true

abbrev pub after_open : (List Entry → ℕ → ℕ → Bool) → ℕ → List ℕ → Result Opened Refusal → ReadResult
after_open rule room text (Err r) = refused (number r.fault) r.detail
after_open rule room text (Ok o) = triples rule o.s room o.third.line [] (pieces 10 (drop o.third.at text))

abbrev pub Bounded : List ℕ → Result Opened Refusal → Type 0
Bounded text (Err r) = Unit {0}
Bounded text (Ok o) = Limits text o.s o.third

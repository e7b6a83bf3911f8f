-- What the call that reads a plan's own text returns and leaves; with the owners that may follow it: `text_owners/specs/Call`.
--   Reading                   what a call returns, as numbers: passed with the modulus, the sizes and the number of entries; or refused, and 0 for all of them
--   ReadAnswer                what a call returns and leaves in the lent lists
--   refusal_of o               what a call returns whose outcome o is a refusal: 0 for all else
--   reading_of r               what a call returns whose result is r
--   refuses c d ..            the answer that is a refusal: its number and detail, and all lists cleared
--   answer_by stored room o    the answer for a text that is read as o, where `stored` says what is stored of the triples
--   read_answer_of room o       what is stored is `placed`, sorted
--   answer_rising_of room o     what was stored while triples had to rise
--   call_of text a b c         the answer for lists of the lengths a, b and c: 9 where one is wrong
--   Gives x r ..              the result and the lists are what the answer x says
use Rattle.std.specs.Prelude.{ℕ, ◌≡◌, List, cond, ◌&&◌, eqb, length, Result, Ok, Err}
use Rattle.refusals.specs.Table.{wrong_length}
use Rattle.refusals.specs.Outcome.{Outcome}
use Rattle.refusals.specs.Outcome.{Passed, Refused}
use Rattle.lists.specs.Filled.{zeros}
use Rattle.limits.specs.Limits.{starts_length}
use Rattle.text_opening.specs.Reading.{Entry, kept, placed, ReadResult, refused, accepted, read_of}
use Rattle.text_plan.specs.Stored.{starts_of, columns_stored, values_of}
use Rattle.text_plan.specs.declared.Stated.{Stated}
use Rattle.refusals.specs.declared.Refusal.{Refusal}
use Rattle.refusals.specs.Faults.{number}
use Rattle.text_judge.specs.declared.judge.Sizes.{Sizes}

pub record Reading : Type 0 where
  pub outcome : Outcome
  pub p : ℕ
  pub n : ℕ
  pub m : ℕ
  pub count : ℕ

pub record ReadAnswer : Type 0 where
  pub result : Reading
  pub starts : List ℕ
  pub columns : List ℕ
  pub values : List ℕ

abbrev pub refusal_of : Outcome → Reading
refusal_of o = record { outcome = o; p = 0; n = 0; m = 0; count = 0 }

abbrev pub reading_of : Result Stated Refusal → Reading
reading_of (Ok r) = record { outcome = Passed; p = r.p; n = r.n; m = r.m; count = r.count }
reading_of (Err r) = refusal_of (Refused (number r.fault) r.detail)

abbrev pub refuses : ℕ → ℕ → ℕ → ℕ → ℕ → ReadAnswer
refuses c d a b k = record { result = refusal_of (Refused c d); starts = zeros a; columns = zeros b; values = zeros k }

unfoldable pub answer_by : (Sizes → List Entry → List Entry) → ℕ → ReadResult → ReadAnswer
answer_by stored room (refused c d) = refuses c d starts_length room room
answer_by stored room (accepted s seen) =
    let es : List Entry = stored s seen in
    record {
      result = record { outcome = Passed; p = s.modulus.p; n = s.n; m = s.m; count = length es };
      starts = starts_of s.n es;
      columns = columns_stored room es;
      values = values_of room es;
    }

abbrev pub read_answer_of : ℕ → ReadResult → ReadAnswer
read_answer_of = answer_by placed

-- before triples could stand in any order they were stored as they stood
abbrev pub answer_rising_of : ℕ → ReadResult → ReadAnswer
answer_rising_of = answer_by (λ s seen. kept seen)

unfoldable pub call_of : List ℕ → ℕ → ℕ → ℕ → ReadAnswer
call_of text a b c = cond (eqb a starts_length && eqb b c) (read_answer_of b (read_of b text)) (refuses wrong_length 0 a b c)

pub record Gives (x : ReadAnswer) (r : Reading) (starts columns values : List ℕ) : Type 0 where
  pub result-is : r ≡ x.result
  pub starts-are : starts ≡ x.starts
  pub columns-are : columns ≡ x.columns
  pub values-are : values ≡ x.values

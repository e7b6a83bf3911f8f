-- Where a plan's text ends that a question may follow: with its first line `0 0 0`, and with the line after it where that one begins with the word
-- `owners`.
--   owners_end foot       how many bytes of what follows the line `0 0 0` belong to the plan: the line of owners, with its line feed where it has one, or none
--   text_end text         that place of a text
--   PlanTextEnds ..      the contract: r is that place, and within the text
use Rattle.std.specs.Prelude.{ℕ, ◌+◌, ◌≤◌, ◌≡◌, cond, List, eqb, length, drop}
use Rattle.text_fields.specs.Pieces.{pieces, first_piece}
use Rattle.text_owners.specs.Ending.{end_in}
use Rattle.text_owners.specs.Owners.{is_owners_word}

unfoldable pub owners_end : List ℕ → ℕ
owners_end foot =
    let l = first_piece (pieces 10 foot) in
    cond (is_owners_word (first_piece (pieces 32 l))) (cond (eqb (length l) (length foot)) (length l) (length l + 1)) 0

unfoldable pub text_end : List ℕ → ℕ
text_end text = let e = end_in (pieces 10 text) in e + owners_end (drop e text)

pub record PlanTextEnds (text : List ℕ) (r : ℕ) : Type 0 where
  pub end_is : r ≡ text_end text
  pub inside : r ≤ length text

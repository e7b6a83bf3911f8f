-- Where the plan's own text ends: with its first line `0 0 0`. Owners may follow it, and in the question program a question too.
--   is_last_line l          a line is `0 0 0`
--   end_in t               the place after the first line `0 0 0` of the lines t; the text's end where there is none
--   lines_in t             how many lines end before that place, each with its line feed
--   plan_end text          that place of a text; a text above the limit is not looked through: its end
--   plan_part, foot_part    the text before that place, and from it on
--   foot_line text         the number of the line there; 1 of a text above the limit
--   EndsIn text r         the contract of looking for the line: r is the place after it with the number of the line there, and within the text
--   PlanEnds text r       the same of a text that may be above the limit
use Rattle.std.specs.Prelude.{ℕ, ◌+◌, ◌≤◌, ◌≡◌, Bool, cond, ◌&&◌, List, eqb, ltb, length, get_or, take, drop}
use Rattle.text_fields.specs.Pieces.{Pieces, last, more, pieces}
use Rattle.text_lines.specs.declared.Place.{Place}
use Rattle.limits.specs.Limits.{largest_text}

unfoldable pub is_last_line : List ℕ → Bool
is_last_line l = eqb (length l) 5 && (eqb (get_or l 0 0) 48 && (eqb (get_or l 1 0) 32 && (eqb (get_or l 2 0) 48 && (eqb (get_or l 3 0) 32 && eqb (get_or l 4 0) 48))))

unfoldable pub end_in : Pieces → ℕ
end_in (last l) = length l
end_in (more l t) = let rest = end_in t in length l + 1 + cond (is_last_line l) 0 rest

unfoldable pub lines_in : Pieces → ℕ
lines_in (last l) = 0
lines_in (more l t) = let rest = lines_in t in 1 + cond (is_last_line l) 0 rest

unfoldable pub plan_end : List ℕ → ℕ
plan_end text = cond (ltb largest_text (length text)) (length text) (end_in (pieces 10 text))

abbrev pub plan_part : List ℕ → List ℕ
plan_part text = take (plan_end text) text

abbrev pub foot_part : List ℕ → List ℕ
foot_part text = drop (plan_end text) text

unfoldable pub foot_line : List ℕ → ℕ
foot_line text = cond (ltb largest_text (length text)) 1 (lines_in (pieces 10 text) + 1)

pub record EndsIn (text : List ℕ) (r : Place) : Type 0 where
  pub end_is : r.at ≡ end_in (pieces 10 text)
  pub line-is : r.line ≡ lines_in (pieces 10 text) + 1
  pub inside : r.at ≤ length text
  pub numbered : r.line ≤ r.at + 1

pub record PlanEnds (text : List ℕ) (r : Place) : Type 0 where
  pub end_is : r.at ≡ plan_end text
  pub line-is : r.line ≡ foot_line text
  pub inside : r.at ≤ length text
  pub numbered : r.line ≤ r.at + 1

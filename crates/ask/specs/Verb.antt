-- What the program prints, by its verb.
--   line_for t plan y    with the verb `words` the line of the words that give the slot values y, without a verb the line of the answer to the question y
--   text_line t text     the line for a text in which the values follow the plan: where they are cut off it is refused, and else it is the line for the
--                       plan and as many of the values as are kept
--   TextLists text ..   what writing that line needs: a text of fewer than 2^32 bytes, a buffer that holds any line, and a working row
--   settings_verb        the verb `settings`
use Rattle.std.specs.Prelude.{ℕ, ◌+◌, ◌≤◌, ◌<◌, ◌^◌, ◌≡◌, Bool, cond, List, [], ◌∷◌, length, take, drop}
use Rattle.limits.specs.Limits.{work_length, starts_length, print_room}
use Rattle.ask_lib.specs.Asking.{ask_of}
use Rattle.ask_words.specs.Solving.{words_of}
use Rattle.ask.specs.Cut.{is_cut, last_line_number, cut_line}
use Rattle.ask.specs.Ending.{text_end}
use Rattle.ask.specs.Values.{question_in}

abbrev pub line_for : Bool → (plan y : List ℕ) → List ℕ
line_for t plan y = cond t (words_of plan y) (ask_of plan y)

unfoldable pub text_line : Bool → List ℕ → List ℕ
text_line t text =
    let e = text_end text in
    let values = drop e text in
    cond (is_cut values) (cut_line (take e text) (last_line_number text)) (line_for t (take e text) (take starts_length (question_in values)))

pub record TextLists (text out w : List ℕ) : Type 0 where
  pub short : length text + 1 < 2 ^ 32
  pub room : print_room ≤ length out
  pub work-length : length w ≡ work_length

-- `settings`
abbrev pub settings_verb : List ℕ
settings_verb = 115 ∷ 101 ∷ 116 ∷ 116 ∷ 105 ∷ 110 ∷ 103 ∷ 115 ∷ []

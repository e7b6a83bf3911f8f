-- What the program `ask` prints: one line, a label and the values that go with it.
--   values_text xs            each value of a list after a space
--   values_line label xs      the label and the values, with the line feed
--   verdict_word t            `open` or `closed`
--   answer_line t xs          the line of a verdict on a question
--   answer_text t x z         the line of an answer: `open` with x, or `closed` with z
--   slots_word t              `words` or `contradiction`
--   slots_line t xs           the line of an answer to slot values
--   slots_text t s w          the line of such an answer with its lists: `words` with the setting s, or `contradiction` with the combination w of the slots
use Rattle.std.specs.Prelude.{ℕ, Bool, cond}
use mathlib.Core.List.{List, [], ◌∷◌, ◌++◌, flatten}
use Rattle.print_text.specs.Labels.{open_word, closed_word, setting_word, contradiction_word, space, line_feed}
use Rattle.print_text.specs.Lines.{labelled}

unfoldable pub values_text : List ℕ → List ℕ
values_text [] = []
values_text (x ∷ xs) = labelled space x ++ values_text xs

unfoldable pub values_line : (label values : List ℕ) → List ℕ
values_line label values = flatten (label ∷ values_text values ∷ line_feed ∷ [])

-- ---- a question

abbrev pub verdict_word : Bool → List ℕ
verdict_word t = cond t open_word closed_word

abbrev pub answer_line : Bool → List ℕ → List ℕ
answer_line t xs = values_line (verdict_word t) xs

abbrev pub answer_text : Bool → List ℕ → List ℕ → List ℕ
answer_text t x z = answer_line t (cond t x z)

-- ---- slot values

abbrev pub slots_word : Bool → List ℕ
slots_word t = cond t setting_word contradiction_word

abbrev pub slots_line : Bool → List ℕ → List ℕ
slots_line t xs = values_line (slots_word t) xs

abbrev pub slots_text : Bool → List ℕ → List ℕ → List ℕ
slots_text t s w = slots_line t (cond t s w)

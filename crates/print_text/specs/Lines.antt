-- The printed lines, each with its line feed (document 01, "Report and cases"; the totals: document 02, slip 1; the owners: slip 4).
--   labelled label x         a label and a number in decimal
--   sizes_line s              `modulus 7 slots 5 words 5 entries 11`
--   rank_line s               `rank 4 structural 4 L 6 U 7`
--   open_line j k             `open 5 owner 1`, for column 4 with the owner k: words count from 1
--   word_line j k cell        the line of column j with the owner k where its cell is 1 (open), none where it is 0 (closed)
--   open_lines j ks cells     the lines of the columns from j on, rising; ks are the owners of all columns
--   open_count cells          how many cells are 1 (open words)
--   closed_count cells        how many are not (closed words)
--   totals_line cells         `totals open 1 closed 4`
use Rattle.std.specs.Prelude.{ℕ, ◌+◌, cond, not, eqb, length, get_or}
use mathlib.Core.List.{List, [], ◌∷◌, ◌++◌, flatten}
use Rattle.lists.specs.Tests.{count}
use Rattle.text_fields.specs.Decimal.{decimal}
use Rattle.print_text.specs.declared.lines.Summary.{Summary}
use Rattle.print_text.specs.Labels.{modulus_label, slots_label, words_label, entries_label, rank_label, structural_label, lower_label, upper_label, open_label, owner_label, totals_label, closed_label, line_feed}

unfoldable pub labelled : List ℕ → ℕ → List ℕ
labelled label x = label ++ decimal x

unfoldable pub sizes_line : Summary → List ℕ
sizes_line s =
    flatten
    (labelled modulus_label s.modulus
    ∷ labelled slots_label s.slots
    ∷ labelled words_label s.words
    ∷ labelled entries_label s.entries
    ∷ line_feed
    ∷ [])

unfoldable pub rank_line : Summary → List ℕ
rank_line s =
    flatten
    (labelled rank_label s.rank
    ∷ labelled structural_label s.structural
    ∷ labelled lower_label s.lower
    ∷ labelled upper_label s.upper
    ∷ line_feed
    ∷ [])

unfoldable pub open_line : (j owner : ℕ) → List ℕ
open_line j owner = flatten (labelled open_label (j + 1) ∷ labelled owner_label owner ∷ line_feed ∷ [])

unfoldable pub word_line : (j owner cell : ℕ) → List ℕ
word_line j owner cell = cond (eqb cell 1) (open_line j owner) []

unfoldable pub open_lines : ℕ → (owners cells : List ℕ) → List ℕ
open_lines j owners [] = []
open_lines j owners (cell ∷ cells) = word_line j (get_or owners j 0) cell ++ open_lines (j + 1) owners cells

-- each is counted, neither is what the other leaves over: that they add up to the number of words is a theorem, `counts-sum`
unfoldable pub open_count : List ℕ → ℕ
open_count cells = count (length cells) (λ j. eqb (get_or cells j 0) 1)

unfoldable pub closed_count : List ℕ → ℕ
closed_count cells = count (length cells) (λ j. not (eqb (get_or cells j 0) 1))

unfoldable pub totals_line : List ℕ → List ℕ
totals_line cells = flatten (labelled totals_label (open_count cells) ∷ labelled closed_label (closed_count cells) ∷ line_feed ∷ [])

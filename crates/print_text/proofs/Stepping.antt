-- One line, and one value, at a time.
use mathlib.Core.Path.{◌≡◌, refl, ap}
use mathlib.Core.Bool.{Bool, cond}
use mathlib.Core.List.{List, [], ◌++◌}
use Prim.Native.Nat.{ℕ, ◌+◌, ◌≤◌, ◌<◌}
use lib.ListN.{length, get_or, drop, drop_of_length-le}
use borrow.Author.Tests.{eq-eqb, ne_eqb}
use Rattle.lists.proofs.Steps.{drop-step}
use Rattle.print_text.specs.Labels.{space}
use Rattle.print_text.specs.Lines.{labelled, open_line, word_line, open_lines}
use Rattle.print_text.specs.Answer.{values_text}

-- the line of an open word, and of a closed one
pub word-open : (j owner cell : ℕ) → cell ≡ 1 → word_line j owner cell ≡ open_line j owner
unfolding word_line
word-open j owner cell e = ap (λ (t : Bool). cond t (open_line j owner) []) (eq-eqb cell 1 e)

pub word-closed : (j owner cell : ℕ) → (cell ≡ 1 → ⊥) → word_line j owner cell ≡ []
unfolding word_line
word-closed j owner cell e = ap (λ (t : Bool). cond t (open_line j owner) []) (ne_eqb cell 1 e)

-- ---- the lines, and the values, from a place of the list on

abbrev pub lines_from : (owners cells : List ℕ) → ℕ → List ℕ
lines_from owners cells j = open_lines j owners (drop j cells)

pub lines_step : (owners cells : List ℕ) (j : ℕ) → j < length cells → lines_from owners cells j ≡ word_line j (get_or owners j 0) (get_or cells j 0) ++ lines_from owners cells (j + 1)
unfolding open_lines
lines_step owners cells j h = ap (λ (l : List ℕ). open_lines j owners l) (drop-step cells j (get_or cells j 0) h refl)

pub lines_end : (owners cells : List ℕ) (j : ℕ) → length cells ≤ j → lines_from owners cells j ≡ []
unfolding open_lines
lines_end owners cells j h = ap (λ (l : List ℕ). open_lines j owners l) (drop_of_length-le cells h)

abbrev pub values_from : List ℕ → ℕ → List ℕ
values_from values i = values_text (drop i values)

pub values-step : (values : List ℕ) (i : ℕ) → i < length values → values_from values i ≡ labelled space (get_or values i 0) ++ values_from values (i + 1)
unfolding values_text
values-step values i h = ap (λ (l : List ℕ). values_text l) (drop-step values i (get_or values i 0) h refl)

pub values-end : (values : List ℕ) (i : ℕ) → length values ≤ i → values_from values i ≡ []
unfolding values_text
values-end values i h = ap (λ (l : List ℕ). values_text l) (drop_of_length-le values h)

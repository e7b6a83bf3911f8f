-- The stored form of entries that stand in order, as the lent lists hold it. Rows and columns are stored from 0.
--   count_to k es                 how many entries stand in the first k rows
--   starts_of n es                the row starts of n rows, zero past them
--   columns_stored, values_of      the columns and the values, zero past the last entry
--   RowsWithin n es              every entry stands in a row from 1 to n
--   EntriesStored n room es ..   the lists, with room for so many entries, hold the entries es, all in the first n rows
use Rattle.std.specs.Prelude.{ℕ, ◌+◌, ◌-◌, ◌≤◌, ◌≡◌, List, [], ◌∷◌, map, cond, leb, length}
use Rattle.lists.specs.Filled.{filled}
use Rattle.lists.specs.Tabulate.{tabulate}
use Rattle.limits.specs.Limits.{starts_length}
use Rattle.text_opening.specs.Reading.{Entry}

unfoldable pub count_to : ℕ → List Entry → ℕ
count_to k [] = 0
count_to k (t ∷ ts) = cond (leb t.row k) (count_to k ts + 1) (count_to k ts)

unfoldable pub starts_of : ℕ → List Entry → List ℕ
starts_of n es = filled starts_length (tabulate (n + 1) (λ k. count_to k es))

unfoldable pub columns_stored : ℕ → List Entry → List ℕ
columns_stored room es = filled room (map (λ (t : Entry). t.column - 1) es)

unfoldable pub values_of : ℕ → List Entry → List ℕ
values_of room es = filled room (map (λ (t : Entry). t.value) es)

unfoldable pub RowsWithin : ℕ → List Entry → Type 0
RowsWithin n [] = Unit {0}
RowsWithin n (t ∷ ts) = (1 ≤ t.row) × (t.row ≤ n) × RowsWithin n ts

pub record EntriesStored (n room : ℕ) (es : List Entry) (count : ℕ) (starts columns values : List ℕ) : Type 0 where
  pub rows : RowsWithin n es
  pub number : count ≡ length es
  pub starts-are : starts ≡ starts_of n es
  pub columns-are : columns ≡ columns_stored room es
  pub values-are : values ≡ values_of room es

-- What the steps of reading start from, and what they come to.
--   NothingStored ..         the lists have their lengths and are all zero
--   ReadingReady ..          what reading the lines from a place on starts from
--   TripleLines              what reading lines comes to: a refusal and its line, or the number of entries and the row of the last triple
--   lines_of r               the same of a result
--   Shows room o r ..        what reading lines whose triples rise returns and leaves, where they are read as o
--   StoresAll n room es ..   the lists hold the entries es in the end, all in the first n rows
--   Settles room o r ..      what reading lines in any order returns and leaves, where they are read as o
--   Storable ..              what storing one entry starts from: the lists have room for v at i and j, after the row given
--   AddsEntry t row ..       what it comes to: lists that hold what is stored of the triples seen hold afterwards what is stored once t is seen too
--   most_lines                as many lines as a text can list: each has six bytes, the line feed among them
--   Keepable ..              what keeping the triple of a number starts from: the lists have a cell for it
--   Collectable ..           what collecting the lines from a place on starts from
--   Gathered                 how many lines were collected, and the outcome that ended it
--   gathered_of r            the same of what code returns
--   Collects c r ..          what it returns and leaves: the lists hold the triples collected, by number
--   Sortable ..              what sorting the numbers of lines starts from: every number has a row and a column in the plan
--   RowsTo n rows order      the numbers of a list have rows up to n
--   kept_in ..                what is stored of the triples of a list of numbers, in its order
--   StorableInOrder ..       what storing them starts from: each stands in the plan, and their rows rise
use Rattle.std.specs.Prelude.{ℕ, ◌+◌, ◌^◌, ◌≤◌, ◌<◌, ◌≡◌, List, ◌∷◌, map, reverse, length, get_or, Result, Ok, Err}
use Rattle.lists.specs.Filled.{zeros}
use Rattle.limits.specs.Limits.{largest_size, starts_length}
use Rattle.grouping.specs.Grouping.{key_of}
use Rattle.sparse.specs.Matrix.{Compressed}
use Rattle.text_lines.specs.declared.Place.{Place}
use Rattle.text_judge.specs.declared.judge.Sizes.{Sizes}
use Rattle.text_opening.specs.Reading.{Entry, ReadResult, refused, accepted, kept, placed}
use Rattle.text_opening.specs.Opening.{Limits}
use Rattle.text_plan.specs.Rising.{last_row}
use Rattle.text_plan.specs.Stored.{EntriesStored}
use Rattle.text_plan.specs.Collect.{Collected, outcome_of, triple_in, ByNumber}
use Rattle.text_plan.specs.declared.collecting.Gathered.{Gathered as Collecting}
use Rattle.text_plan.specs.declared.triples.Stored.{Stored}
use Rattle.refusals.specs.declared.Refusal.{Refusal}
use Rattle.refusals.specs.Faults.{number}
use Rattle.refusals.specs.Outcome.{Outcome, outcome_of as ended_as}

-- ---- the lent lists, and the triples in the order of the text
pub record NothingStored (starts columns values : List ℕ) : Type 0 where
  pub starts-zero : starts ≡ zeros starts_length
  pub columns-zero : columns ≡ zeros (length columns)
  pub values-zero : values ≡ zeros (length columns)

pub record ReadingReady (text : List ℕ) (from : Place) (s : Sizes) (starts columns values : List ℕ) : Type 0 where
  pub limits : Limits text s from
  pub cleared : NothingStored starts columns values

pub data TripleLines : Type 0 where
  Refused : ℕ → ℕ → TripleLines
  Read : ℕ → ℕ → TripleLines

abbrev pub lines_of : Result Stored Refusal → TripleLines
lines_of (Ok r) = Read r.count r.row
lines_of (Err r) = Refused (number r.fault) r.detail

abbrev pub Shows : ℕ → ReadResult → TripleLines → List ℕ → List ℕ → List ℕ → Type 0
Shows room (refused c k) r starts columns values = r ≡ Refused c k
Shows room (accepted s seen) r starts columns values =
    (r ≡ Read (length (kept seen)) (last_row seen)) × EntriesStored (last_row seen) room (kept seen) (length (kept seen)) starts columns values × (last_row seen ≤ s.n)

abbrev pub StoresAll : ℕ → ℕ → List Entry → TripleLines → List ℕ → List ℕ → List ℕ → Type 0
StoresAll n room es (Refused c k) starts columns values = ⊥
StoresAll n room es (Read count row) starts columns values = EntriesStored row room es count starts columns values × (row ≤ n)

abbrev pub Settles : ℕ → ReadResult → TripleLines → List ℕ → List ℕ → List ℕ → Type 0
Settles room (refused c k) r starts columns values = r ≡ Refused c k
Settles room (accepted s seen) r starts columns values = StoresAll s.n room (placed s seen) r starts columns values

pub record Storable (starts columns values count row i j v : ℕ) : Type 0 where
  pub order : row ≤ i
  pub inside : i < starts_length
  pub starts-length : starts ≡ starts_length
  pub first-row : 1 ≤ i
  pub first-column : 1 ≤ j
  pub column_fits : j < 2 ^ 32
  pub count_fits : count + 1 < 2 ^ 32
  pub lists : columns ≡ values
  pub room : (v ≡ 0 → ⊥) → count < columns

abbrev pub AddsEntry : Entry → (row count : ℕ) → Compressed → (count' : ℕ) → Compressed → Type 0
AddsEntry t row count A count' A' =
    (seen : List Entry) → EntriesStored row (length A.cols) (kept seen) count A.starts A.cols A.vals
    → EntriesStored t.row (length A.cols) (kept (t ∷ seen)) count' A'.starts A'.cols A'.vals

-- ---- the triples by number
abbrev pub most_lines : ℕ
most_lines = 10922

pub record Keepable (rows columns values number i j : ℕ) : Type 0 where
  pub row-cell : number < rows
  pub column-cell : number < columns
  pub value_cell : number < values
  pub row_fits : i < 2 ^ 32
  pub column_fits : j < 2 ^ 32

pub record Collectable (text : List ℕ) (from : Place) (s : Sizes) (rows columns values : List ℕ) : Type 0 where
  pub limits : Limits text s from
  pub rows_long : length rows ≡ most_lines
  pub columns-long : length columns ≡ most_lines
  pub values-long : length values ≡ most_lines

pub record Gathered : Type 0 where
  pub count : ℕ
  pub outcome : Outcome

abbrev pub gathered_of : Collecting → Gathered
gathered_of r = record { count = r.count; outcome = ended_as r.ended }

pub record Collects (c : Collected) (r : Gathered) (rows columns values : List ℕ) : Type 0 where
  pub outcome-is : r.outcome ≡ outcome_of c.result
  pub count-is : r.count ≡ length c.all
  pub few : r.count ≤ most_lines
  pub held : ByNumber (triple_in rows columns values) c.all

pub record Sortable (s : Sizes) (rows columns order : List ℕ) : Type 0 where
  pub n-limit : s.n ≤ largest_size
  pub m-limit : s.m ≤ largest_size
  pub few : length order ≤ most_lines
  pub rows_long : length order ≤ length rows
  pub columns-long : length order ≤ length columns
  pub rows_inside : (x : ℕ) → x < length order → key_of rows x < s.n + 1
  pub columns-inside : (x : ℕ) → x < length order → key_of columns x < s.m + 1

abbrev pub RowsTo : ℕ → List ℕ → List ℕ → Type 0
RowsTo n rows order = (k : ℕ) → k < length order → key_of rows (get_or order k 0) ≤ n

abbrev pub kept_in : (rows columns values order : List ℕ) → List Entry
kept_in rows columns values order = kept (reverse (map (triple_in rows columns values) order))

pub record StorableInOrder (rows columns values order starts cols vals : List ℕ) : Type 0 where
  pub cleared : NothingStored starts cols vals
  pub few : length order ≤ most_lines
  pub rows_long : (k : ℕ) → k < length order → get_or order k 0 < length rows
  pub columns-long : (k : ℕ) → k < length order → get_or order k 0 < length columns
  pub values-long : (k : ℕ) → k < length order → get_or order k 0 < length values
  pub row_low : (k : ℕ) → k < length order → 1 ≤ key_of rows (get_or order k 0)
  pub row-high : RowsTo largest_size rows order
  pub rise : (k : ℕ) → k + 1 < length order → key_of rows (get_or order k 0) ≤ key_of rows (get_or order (k + 1) 0)
  pub column-low : (k : ℕ) → k < length order → 1 ≤ key_of columns (get_or order k 0)
  pub column-high : (k : ℕ) → k < length order → key_of columns (get_or order k 0) ≤ largest_size
  pub room : length (kept_in rows columns values order) ≤ length cols

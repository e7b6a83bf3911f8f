-- A row put into the cells of its copy.
--   ClearFrom at copies               the list is 0 from place `at` on
--   SpreadReady low at cols vals ..   a copy can begin at place `at` with column `low`: no column is before it, and there is room
--   Spread low at cols vals ..        its cells are the row's entries, where they were 0, and no earlier place is changed
--   Worth p cols m room               the row has an entry, p is below 2 ^ 16, and its copy of at most m cells fits into `room` places
--   CopyRowReady r m fill ..          the row can be copied as row r, from place `fill` on
--   RowCopied r m fill ..             so it is: place r says where, place 2048 + r with which column, and nothing else before `fill` is changed
use Rattle.std.specs.Prelude.{ℕ, ◌+◌, ◌-◌, ◌^◌, ◌≤◌, ◌<◌, ◌≡◌, true, List, length, get_or}
use Rattle.sparse.specs.Form.{rises_from}
use Rattle.sparse.specs.Row.{entry}

abbrev pub ClearFrom : ℕ → List ℕ → Type 0
ClearFrom at copies = (i : ℕ) → at ≤ i → get_or copies i 0 ≡ 0

pub record SpreadReady (low at : ℕ) (cols vals copies : List ℕ) : Type 0 where
  pub width : ℕ
  pub paired : length cols ≡ length vals
  pub rising : rises_from width 0 cols ≡ true
  pub first : (t : ℕ) → t < length cols → low ≤ get_or cols t 0
  pub room : (t : ℕ) → t < length cols → at + (get_or cols t 0 - low) < length copies

pub record Spread (low at : ℕ) (cols vals copies₀ copies : List ℕ) : Type 0 where
  pub long : length copies ≡ length copies₀
  pub front : (i : ℕ) → i < at → get_or copies i 0 ≡ get_or copies₀ i 0
  pub cells : ClearFrom at copies₀ → (s : ℕ) → get_or copies (at + s) 0 ≡ entry cols vals (low + s)

pub record Worth (p : ℕ) (cols : List ℕ) (m room : ℕ) : Type 0 where
  pub small : p < 65536
  pub some : 0 < length cols
  pub fits : m - get_or cols 0 0 ≤ room

pub record CopyRowReady (r m fill : ℕ) (cols vals copies : List ℕ) : Type 0 where
  pub row : r < 2048
  pub narrow : m ≤ 2048
  pub low : 4096 ≤ fill
  pub some : 0 < length cols
  pub paired : length cols ≡ length vals
  pub rising : rises_from m 0 cols ≡ true
  pub room : fill + (m - get_or cols 0 0) ≤ length copies
  pub small : length copies < 2 ^ 32

pub record RowCopied (r m fill : ℕ) (cols vals copies₀ copies : List ℕ) (next : ℕ) : Type 0 where
  pub long : length copies ≡ length copies₀
  pub end : next ≡ fill + (m - get_or cols 0 0)
  pub place : get_or copies r 0 ≡ fill
  pub column : get_or copies (2048 + r) 0 ≡ get_or cols 0 0
  pub front : (i : ℕ) → i < fill → ¬ (i ≡ r) → ¬ (i ≡ 2048 + r) → get_or copies i 0 ≡ get_or copies₀ i 0
  pub cells : ClearFrom fill copies₀ → (s : ℕ) → get_or copies (fill + s) 0 ≡ entry cols vals (get_or cols 0 0 + s)

-- The search for what is not 0, in marked blocks alone.
--   ZeroSpan f n from to             f is 0 at the places from `from` up to `to`, which is n at most
--   FirstNonzero f n from r          so it is up to r, and f is not 0 at r, or r is n
--   marks_of marks                    the mark of the block of each place
--   BlockEnd j n e                   the block of cell j ends at place e, in a row of n cells
--   BlockPassable marks j n          place j of n has its mark, and is in a block that is not marked
--   CellPassable touched w j         cell j is 0, and can be passed over with those after it
--   SearchReady touched w from       what the search from place `from` on needs
--   CellCounted v j c low c' low'    the cell of column j is v: it is counted unless v is 0, and is the lowest if it is the first
use Rattle.std.specs.Prelude.{ℕ, ◌+◌, ◌*◌, ◌≤◌, ◌<◌, ◌≡◌, List, length, get_or}
use Rattle.factor_touch.specs.Touched.{cell_block, Covers}

pub record ZeroSpan (f : ℕ → ℕ) (n from to : ℕ) : Type 0 where
  pub least : from ≤ to
  pub inside : to ≤ n
  pub none : (i : ℕ) → from ≤ i → i < to → f i ≡ 0

pub record FirstNonzero (f : ℕ → ℕ) (n from r : ℕ) : Type 0 where
  pub span : ZeroSpan f n from r
  pub one : r < n → ¬ (f r ≡ 0)

abbrev pub marks_of : List ℕ → ℕ → ℕ
marks_of marks j = get_or marks (cell_block j) 0

pub record BlockEnd (j n e : ℕ) : Type 0 where
  pub after : j < e
  pub inside : e ≤ n
  pub block : (i : ℕ) → j ≤ i → i < e → cell_block i ≡ cell_block j

pub record BlockPassable (marks : List ℕ) (j n : ℕ) : Type 0 where
  pub inside : j < n
  pub marked : cell_block j < length marks
  pub clear : marks_of marks j ≡ 0

pub record CellPassable (touched w : List ℕ) (j : ℕ) : Type 0 where
  pub inside : j < length w
  pub here : get_or w j 0 ≡ 0
  pub blocks : length w ≤ 16 * length touched
  pub covers : Covers cell_block touched w

pub record SearchReady (touched w : List ℕ) (from : ℕ) : Type 0 where
  pub inside : from ≤ length w
  pub blocks : length w ≤ 16 * length touched
  pub covers : Covers cell_block touched w

pub record CellCounted (v j count low count' low' : ℕ) : Type 0 where
  pub zero : v ≡ 0 → (count' ≡ count) × (low' ≡ low)
  pub one : ¬ (v ≡ 0) → count' ≡ count + 1
  pub lowest : ¬ (v ≡ 0) → count ≡ 0 → low' ≡ j
  pub higher : ¬ (v ≡ 0) → ¬ (count ≡ 0) → low' ≡ low

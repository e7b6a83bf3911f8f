-- The blocks of sixteen, of cells of the working row or of pivots, in which something may stand: what is not marked is 0.
--   cell_block j                 the block of the cell of column j
--   free_block place j           the same of a column that is no pivot; all pivot columns share block 128
--   pivot_block place j          the block of the pivot whose column is j, where `place` gives each column its pivot
--   Covers block marks w        a cell whose block is not marked is 0
--   AllMarked marks             every block is marked
--   ColumnsMarked block cs ..   the blocks of the columns cs are marked, and those that were
--   NoteReady ..                what marking the columns of a row needs
--   Noted ..                    the blocks of a row's cells and pivots are marked; `full` says that all blocks are
use Rattle.std.specs.Prelude.{ℕ, ◌/◌, ◌<◌, ◌≡◌, Bool, true, cond, List, eqb, length, get_or}

abbrev pub cell_block : ℕ → ℕ
cell_block j = j / 16

unfoldable pub free_block : List ℕ → ℕ → ℕ
free_block place j = cond (eqb (get_or place j 0) 2048) (cell_block j) 128

abbrev pub pivot_block : List ℕ → ℕ → ℕ
pivot_block place j = get_or place j 0 / 16

abbrev pub Covers : (ℕ → ℕ) → List ℕ → List ℕ → Type 0
Covers block marks w = (j : ℕ) → j < length w → get_or marks (block j) 0 ≡ 0 → get_or w j 0 ≡ 0

abbrev pub AllMarked : List ℕ → Type 0
AllMarked marks = (b : ℕ) → b < length marks → ¬ (get_or marks b 0 ≡ 0)

pub record ColumnsMarked (block : ℕ → ℕ) (cs marks₀ marks : List ℕ) : Type 0 where
  pub long : length marks ≡ length marks₀
  pub columns : (t : ℕ) → t < length cs → ¬ (get_or marks (block (get_or cs t 0)) 0 ≡ 0)
  pub kept : (b : ℕ) → get_or marks b 0 ≡ 0 → get_or marks₀ b 0 ≡ 0

pub record NoteReady (full : Bool) (cs place touched pending : List ℕ) : Type 0 where
  pub cells : (t : ℕ) → t < length cs → free_block place (get_or cs t 0) < length touched
  pub places : (t : ℕ) → t < length cs → get_or cs t 0 < length place
  pub pivots : (t : ℕ) → t < length cs → pivot_block place (get_or cs t 0) < length pending
  pub all : full ≡ true → AllMarked touched × AllMarked pending

pub record Noted (cs place touched₀ pending₀ touched pending : List ℕ) (full : Bool) : Type 0 where
  pub cells : ColumnsMarked (free_block place) cs touched₀ touched
  pub pivots : ColumnsMarked (pivot_block place) cs pending₀ pending
  pub all : full ≡ true → AllMarked touched × AllMarked pending

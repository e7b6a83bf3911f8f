-- The lists of the entries of L and of U.
--   EntryLists, entry_lists_of                     the columns and the values of L's entries, and those of U's
--   entries_at, entries_before, entries_after       four lent lists as they are handed, when a call begins, and when it ends
--   row_before starts cols vals i                 row i of the stored matrix
--   front_before r co                             the first r numbers of a lent list
--   cut_before r at us uc uv                      r rows of U with `at` entries, in lists that are cut to their lengths
use Rattle.std.specs.Prelude.{ℕ, List, take}
use Rattle.algebra.specs.Matrix.{Vector}
use Rattle.sparse.specs.Matrix.{Compressed, matrix}
use Rattle.sparse.specs.Views.{stored_before}
use Rattle.factor_row.specs.Gathering.{cut}

pub record EntryLists : Type 0 where
  pub lc : List ℕ
  pub lv : List ℕ
  pub uc : List ℕ
  pub uv : List ℕ

abbrev pub entry_lists_of : (lc lv uc uv : List ℕ) → EntryLists
entry_lists_of lc lv uc uv = record { lc = lc; lv = lv; uc = uc; uv = uv }

abbrev pub entries_at : (lc lv uc uv : List ℕ) → EntryLists
entries_at lc lv uc uv = entry_lists_of lc lv uc uv

abbrev pub entries_before : (lc lv uc uv : List ℕ) → EntryLists
entries_before lc lv uc uv = entry_lists_of lc lv uc uv

abbrev pub entries_after : (lc lv uc uv : List ℕ) → EntryLists
entries_after lc lv uc uv = entry_lists_of lc lv uc uv

abbrev pub row_before : (starts cols vals : List ℕ) → ℕ → Vector
row_before starts cols vals i = matrix (stored_before starts cols vals) i

abbrev pub front_before : ℕ → List ℕ → List ℕ
front_before r co = take r co

abbrev pub cut_before : (r at : ℕ) → (us uc uv : List ℕ) → Compressed
cut_before r at us uc uv = cut r at us uc uv

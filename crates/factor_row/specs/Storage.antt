-- Lent lists that are being filled with the rows of a factor, one row after another.
--   Begins xs bound l     the list l begins with xs, and is all zero from place `bound` on
--   Holds rows bound h    the lists of h begin with the stored form of `rows`: the starts are zero past them, columns and values from `bound` on
use Rattle.std.specs.Prelude.{ℕ, ◌+◌, ◌-◌, ◌≤◌, ◌≡◌, List, length, take, drop}
use Rattle.lists.specs.Filled.{zeros}
use Rattle.sparse.specs.Matrix.{Compressed}
use Rattle.sparse.specs.Dense.{compress}

pub record Begins (xs : List ℕ) (bound : ℕ) (l : List ℕ) : Type 0 where
  pub front : take (length xs) l ≡ xs
  pub inside : length xs ≤ bound
  pub back : drop bound l ≡ zeros (length l - bound)

pub record Holds (rows : List (List ℕ)) (bound : ℕ) (h : Compressed) : Type 0 where
  pub starts : Begins (compress rows).starts (length rows + 1) h.starts
  pub columns : Begins (compress rows).cols bound h.cols
  pub values : Begins (compress rows).vals bound h.vals

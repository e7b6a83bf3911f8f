-- What the tests of shape need and find.
--   clean w cols                 the cells of these columns are all 0: none of them is marked
--   Rows p width r h             a matrix of width columns and at least r rows
--   AtRow p k h w                row k of a matrix with as many columns as the working row has cells
--   ColumnsTestable p r h C w    rows of such a matrix, their pivot columns, and a working row that is all zero
use Rattle.std.specs.Prelude.{ℕ, ◌+◌, ◌≤◌, ◌<◌, ◌≡◌, Bool, true, ◌&&◌, List, [], ◌∷◌, eqb, length, get_or}
use Rattle.sparse.specs.Row.{Below}
use Rattle.sparse.specs.Matrix.{Compressed, form}
use Rattle.lists.specs.Filled.{zeros}

unfoldable pub clean : List ℕ → List ℕ → Bool
clean w [] = true
clean w (c ∷ cs) = eqb (get_or w c 0) 0 && clean w cs

pub record Rows (p width r : ℕ) (h : Compressed) : Type 0 where
  pub formed : form p width h ≡ true
  pub many : r < length h.starts

pub record AtRow (p k : ℕ) (h : Compressed) (w : List ℕ) : Type 0 where
  pub formed : form p (length w) h ≡ true
  pub inside : k + 1 < length h.starts

pub record ColumnsTestable (p r : ℕ) (h : Compressed) (C w : List ℕ) : Type 0 where
  pub formed : form p (length w) h ≡ true
  pub many : r < length h.starts
  pub order : r ≤ length C
  pub places : Below (length w) C
  pub cleared : w ≡ zeros (length w)

-- What a list of open columns means.
--   MarksOpen p n m A l    m cells, each 1 exactly if the unit vector of its column is in the row space of A (its word is open), and 0 exactly if not
use Rattle.std.specs.Prelude.{ℕ, ◌<◌, ◌≡◌, ◌↔◌, List, length, get_or}
use Rattle.algebra.specs.Sum.{δ}
use Rattle.algebra.specs.RowSpace.{InRowSpace}
use Rattle.sparse.specs.Matrix.{Compressed, matrix}

pub record MarksOpen (p n m : ℕ) (A : Compressed) (l : List ℕ) : Type 0 where
  pub long : length l ≡ m
  pub open_at : (j : ℕ) → j < m → (get_or l j 0 ≡ 1) ↔ InRowSpace p n m (matrix A) (δ j)
  pub closed_at : (j : ℕ) → j < m → (get_or l j 0 ≡ 0) ↔ (¬ InRowSpace p n m (matrix A) (δ j))

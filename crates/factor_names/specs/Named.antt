-- Pairs as the code holds them: a cell for each column names its row, a cell for each row its column, both from 1; 0 names none.
--   ByColumn w ps          the cells of w name the rows of the pairs ps by their columns
--   ByRow v ps             the cells of v name the columns of the pairs ps by their rows
--   Named A n m i w v      w and v name the pairs chosen once the rows below i were taken
use Rattle.std.specs.Prelude.{ℕ, suc, ◌≡◌, List, length, get_or}
use Rattle.sparse.specs.Matrix.{Compressed}
use Rattle.elimination.specs.Structural.{Pair}
use Rattle.lists.specs.Members.{Member}
use Rattle.elimination.specs.Selection.{pair_at}
use Rattle.elimination.specs.Rules.{pivots_to}

pub record ByColumn (w : List ℕ) (ps : List Pair) : Type 0 where
  pub right : (c i : ℕ) → get_or w c 0 ≡ suc i → Member (pair_at i c) ps
  pub all : (b : Pair) → Member b ps → get_or w b.column 0 ≡ suc b.row

pub record ByRow (v : List ℕ) (ps : List Pair) : Type 0 where
  pub right : (i c : ℕ) → get_or v i 0 ≡ suc c → Member (pair_at i c) ps
  pub all : (b : Pair) → Member b ps → get_or v b.row 0 ≡ suc b.column

pub record Named (A : Compressed) (n m i : ℕ) (w v : List ℕ) : Type 0 where
  pub columns-long : length w ≡ m
  pub rows_long : length v ≡ n
  pub by-column : ByColumn w (pivots_to A n m i)
  pub by_row : ByRow v (pivots_to A n m i)

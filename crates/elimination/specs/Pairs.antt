-- What pivot rule 2 has to know of the pairs that it starts from, whichever rule chose them.
--   pair_rows, pair_columns    the rows and the columns of pairs, in order
--   Pairs n m A pairs        the pairs can be pivots of the n by m matrix A as it stands:
--     rows                   their rows are rows of A, and no row comes twice
--     columns                their columns are columns of A
--     here                   each row is not 0 at its own column
--     before                 and is 0 at the columns of the pairs before it
use Rattle.std.specs.Prelude.{ℕ, ◌<◌, ◌≡◌, List, map, length}
use Rattle.algebra.specs.Matrix.{Matrix, Distinct, vector}
use Rattle.elimination.specs.Structural.{Pair}

abbrev pub pair_rows : List Pair → List ℕ
pair_rows pairs = map (λ q. q.row) pairs

abbrev pub pair_columns : List Pair → List ℕ
pair_columns pairs = map (λ q. q.column) pairs

pub record Pairs (n m : ℕ) (A : Matrix) (pairs : List Pair) : Type 0 where
  pub rows : Distinct (length pairs) n (vector (pair_rows pairs))
  pub columns : (k : ℕ) → k < length pairs → vector (pair_columns pairs) k < m
  pub here : (k : ℕ) → k < length pairs → ¬ (A (vector (pair_rows pairs) k) (vector (pair_columns pairs) k) ≡ 0)
  pub before : (k l : ℕ) → k < l → l < length pairs → A (vector (pair_rows pairs) l) (vector (pair_columns pairs) k) ≡ 0

-- Pivot rule 1: the structural pivots of a stored matrix, found without arithmetic (Faugère and Lachartre).
--   size A i              how many entries row i has
--   leads A i c           row i is not empty, and its leftmost column is c
--   prefer A i b          row i against b, the choice so far: the one with fewer entries, b where they have as many
--   chosen A c n          of the rows below n that lead at c the one with fewest entries, of these the lowest-numbered
--   Pair                  a row and the column at which it is a pivot row
--   paired c b            the pair of column c and the row chosen for it, if there is one
--   leading A n m         the chosen rows with their columns, by rising column
use Rattle.std.specs.Prelude.{ℕ, zero, suc, ◌+◌, ◌-◌, Bool, cond, ◌&&◌, List, [], ◌∷◌, ◌++◌, get_or, eqb, ltb}
use Rattle.std.proofs.Math.Option.{Option, none, some}
use Rattle.sparse.specs.Matrix.{Compressed}

abbrev pub size : Compressed → ℕ → ℕ
size A i = get_or A.starts (i + 1) 0 - get_or A.starts i 0

unfoldable pub leads : Compressed → ℕ → ℕ → Bool
leads A i c = ltb 0 (size A i) && eqb (get_or A.cols (get_or A.starts i 0) 0) c

-- row i against the choice among the rows before it
unfoldable pub prefer : Compressed → ℕ → Option ℕ → Option ℕ
prefer A i none = some i
prefer A i (some b) = cond (ltb (size A i) (size A b)) (some i) (some b)

unfoldable pub chosen : Compressed → ℕ → ℕ → Option ℕ
chosen A c zero = none
chosen A c (suc i) = let b = chosen A c i in cond (leads A i c) (prefer A i b) b

pub record Pair : Type 0 where
  pub row : ℕ
  pub column : ℕ

abbrev pub paired : ℕ → Option ℕ → List Pair
paired c none = []
paired c (some i) = record { row = i; column = c } ∷ []

unfoldable pub leading : Compressed → ℕ → ℕ → List Pair
leading A n zero = []
leading A n (suc c) = leading A n c ++ paired c (chosen A c n)

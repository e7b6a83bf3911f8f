-- What the substitution through L leaves in the working row and in x.
--   residues p w                  the residues that the cells of a working row stand for
--   QuotientTaken p L k w₀ w v    v is the value of row k, and w is w₀ with v times that row taken away
--   Placed xs x w                 x is the list xs, and the working row is all zero
use Rattle.std.specs.Prelude.{ℕ, ◌*◌, ◌%◌, ◌≡◌, List, length, get_or}
use Rattle.lists.specs.Filled.{zeros}
use Rattle.algebra.specs.Matrix.{Vector}
use Rattle.sparse.specs.Matrix.{Compressed, matrix}
use Rattle.sparse.specs.WorkingRow.{Subtracted}
use Rattle.row_space.specs.Substitution.{quotient}

abbrev pub residues : ℕ → List ℕ → Vector
residues p w = λ l. get_or w l 0 % p

pub record QuotientTaken (p : ℕ) (L : Compressed) (k : ℕ) (w₀ w : List ℕ) (v : ℕ) : Type 0 where
  pub value : v ≡ quotient p (matrix L) k (residues p w₀)
  pub taken : Subtracted p (λ j. v * matrix L k j) w₀ w

pub record Placed (xs x w : List ℕ) : Type 0 where
  pub list : x ≡ xs
  pub row : w ≡ zeros (length w)

-- Two vectors added up, modulo p (document 02, slip 14: a times the first question and b times the second).
--   mixed p a b u v           a u + b v, each entry as a residue
--   mixed_list k p a b xs ys   the same of two lists: k residues
use Rattle.std.specs.Prelude.{ℕ, ◌+◌, ◌*◌, ◌%◌, List}
use Rattle.lists.specs.Tabulate.{tabulate}
use Rattle.algebra.specs.Matrix.{Vector, vector}

abbrev pub mixed : (p a b : ℕ) → Vector → Vector → Vector
mixed p a b u v = λ j. (a * u j + b * v j) % p

abbrev pub mixed_list : (k p a b : ℕ) → List ℕ → List ℕ → List ℕ
mixed_list k p a b xs ys = tabulate k (mixed p a b (vector xs) (vector ys))

-- A row compared with a row of the product: in the working row, or where it is one row of U times a number.
--   is_combination p w ks vs U               the working row w is the sum of the rows of U, each row k of ks as often as vs says: modulo p, at all columns
--   MultipleOf p c cols vals cols' vals'    at every column the first sparse row's entry is c times the second's, modulo p
use Rattle.std.specs.Prelude.{ℕ, ◌*◌, ◌%◌, Bool, List, eqb, length, get_or}
use Rattle.lists.specs.Tests.{all}
use Rattle.algebra.specs.Congruence.{◌≈⟨◌⟩◌}
use Rattle.algebra.specs.Matrix.{Matrix}
use Rattle.sparse.specs.Row.{weigh, entry}

unfoldable pub is_combination : (p : ℕ) (w ks vs : List ℕ) (U : Matrix) → Bool
is_combination p w ks vs U = all (length w) (λ j. eqb (get_or w j 0 % p) (weigh ks vs (λ k. U k j) % p))

pub record MultipleOf (p c : ℕ) (cols vals cols' vals' : List ℕ) : Type 0 where
  pub entries : (j : ℕ) → entry cols vals j ≈⟨ p ⟩ c * entry cols' vals' j

-- What a listener learns. A setting s (document 01's word setting) gives the slots A s, and gives the question y the value y s.
--   Determined p n m A y         two settings that give the same slots give y the same value
--   SameSlots p n m A y s v t    t is a setting of residues that gives the slots that s gives, and gives y the value v
--   Undetermined p n m A y       for every setting and every value, some setting gives the same slots and gives y that value
use Rattle.std.specs.Prelude.{ℕ, ◌<◌}
use Rattle.algebra.specs.Congruence.{◌≈⟨◌⟩◌}
use Rattle.algebra.specs.Sum.{dot}
use Rattle.algebra.specs.Matrix.{Vector, Matrix}

unfoldable pub Determined : (p n m : ℕ) (A : Matrix) (y : Vector) → Type 0
Determined p n m A y =
    (s t : Vector) → ((i : ℕ) → i < n → dot m (A i) s ≈⟨ p ⟩ dot m (A i) t) → dot m y s ≈⟨ p ⟩ dot m y t

pub record SameSlots (p n m : ℕ) (A : Matrix) (y s : Vector) (v : ℕ) (t : Vector) : Type 0 where
  pub residues : (j : ℕ) → j < m → t j < p
  pub slots : (i : ℕ) → i < n → dot m (A i) t ≈⟨ p ⟩ dot m (A i) s
  pub value : dot m y t ≈⟨ p ⟩ v

unfoldable pub Undetermined : (p n m : ℕ) (A : Matrix) (y : Vector) → Type 0
Undetermined p n m A y = (s : Vector) (v : ℕ) → (t : Vector) × SameSlots p n m A y s v t

-- A vector y reduced in the working row by the rows of U, in order: the value that stands at pivot column C[k] when row k comes is the
-- multiple of row k that is taken away.
--   RemainderRow p m k C U y w   the m cells of the working row stand for what remains of y after the first k rows
--   MultipleTaken p c u w₀ w x   x is the residue at column c, and x times the row u is taken away from every cell, modulo p
use Rattle.std.specs.Prelude.{ℕ, ◌+◌, ◌*◌, ◌%◌, ◌<◌, ◌≡◌, List, length, get_or}
use Rattle.algebra.specs.Congruence.{◌≈⟨◌⟩◌}
use Rattle.algebra.specs.Matrix.{Vector, Matrix}
use Rattle.algebra.specs.Reduction.{reduced}
use Rattle.residue.specs.Arithmetic.{Residue}
use Rattle.sparse.specs.Row.{Below}

pub record RemainderRow (p m k : ℕ) (C : Vector) (U : Matrix) (y : Vector) (w : List ℕ) : Type 0 where
  pub long : length w ≡ m
  pub below : Below (p * p) w
  pub cells : (j : ℕ) → j < m → get_or w j 0 % p ≡ reduced p C U k y j

pub record MultipleTaken (p c : ℕ) (u : Vector) (w₀ w : List ℕ) (x : ℕ) : Type 0 where
  pub multiple : Residue p (get_or w₀ c 0 % p) x
  pub long : length w ≡ length w₀
  pub below : Below (p * p) w
  pub cells : (j : ℕ) → j < length w₀ → get_or w j 0 + x * u j ≈⟨ p ⟩ get_or w₀ j 0

-- The answer to a question from a set that passed: what it leaves.
--   Opened xs x z w       x is the list xs, z and the working row are all zero
--   ClosedAs zs x z       x is all zero, and z is the list zs
--   Answered a v x z w    the verdict, x and z are those of a, and the working row is all zero
use Rattle.std.specs.Prelude.{◌≡◌, List, ℕ, length}
use Rattle.lists.specs.Filled.{zeros}
use Rattle.row_space.specs.Solve.{Solved}
use Rattle.row_space.specs.declared.Verdict.{Verdict}

pub record Opened (xs x z w : List ℕ) : Type 0 where
  pub x-is : x ≡ xs
  pub z-is : z ≡ zeros (length z)
  pub row : w ≡ zeros (length w)

pub record ClosedAs (zs x z : List ℕ) : Type 0 where
  pub x-is : x ≡ zeros (length x)
  pub z-is : z ≡ zs

pub record Answered (a : Solved) (v : Verdict) (x z w : List ℕ) : Type 0 where
  pub verdict : v ≡ a.verdict
  pub x-is : x ≡ a.x
  pub z-is : z ≡ a.z
  pub row : w ≡ zeros (length w)

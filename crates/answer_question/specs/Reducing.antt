-- The reduction of a question by U in the working row: what it leaves.
--   Eliminated p U k c w₀ w v    v is the residue at column c of w₀, and w is w₀ with v times row k of U taken away
--   Remains p C U k y w          w stands for y reduced by the first k rows of U
--   Multiples p C U k y a        the first k cells of the list a are the multiples of U's rows that were taken away from y
--   Reduced p C U r y a w        both, for all r rows
--   QuestionReduced ..           the lowest place of y's remainder, the multiples in a, and the working row all zero
use Rattle.std.specs.Prelude.{ℕ, ◌*◌, ◌%◌, ◌<◌, ◌≡◌, List, length, get_or}
use Rattle.lists.specs.Filled.{zeros}
use Rattle.algebra.specs.Matrix.{Vector, Matrix}
use Rattle.algebra.specs.Reduction.{reduced}
use Rattle.sparse.specs.Matrix.{Compressed, matrix}
use Rattle.sparse.specs.WorkingRow.{Subtracted}
use Rattle.row_space.specs.Solve.{lowest_of}

pub record Eliminated (p : ℕ) (U : Compressed) (k c : ℕ) (w₀ w : List ℕ) (v : ℕ) : Type 0 where
  pub value : v ≡ get_or w₀ c 0 % p
  pub taken : Subtracted p (λ j. v * matrix U k j) w₀ w

abbrev pub Remains : (p : ℕ) (C : Vector) (U : Matrix) (k : ℕ) (y : Vector) (w : List ℕ) → Type 0
Remains p C U k y w = (j : ℕ) → j < length w → get_or w j 0 % p ≡ reduced p C U k y j

abbrev pub Multiples : (p : ℕ) (C : Vector) (U : Matrix) (k : ℕ) (y : Vector) (a : List ℕ) → Type 0
Multiples p C U k y a = (i : ℕ) → i < k → get_or a i 0 ≡ reduced p C U i y (C i)

pub record Reduced (p : ℕ) (C : Vector) (U : Matrix) (r : ℕ) (y : Vector) (a w : List ℕ) : Type 0 where
  pub remains : Remains p C U r y w
  pub multiples : Multiples p C U r y a

pub record QuestionReduced (p : ℕ) (C : Vector) (U : Matrix) (r : ℕ) (y : Vector) (a w : List ℕ) (j : ℕ) : Type 0 where
  pub lowest : j ≡ lowest_of (length w) (reduced p C U r y)
  pub multiples : Multiples p C U r y a
  pub row : w ≡ zeros (length w)

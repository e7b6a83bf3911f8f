-- What a question and its answer mean, without an order of tests.
--   Askable p n m y a b         y holds m residues, and x and z have n and m cells
--   LeftOpen ..                 open, as left in the lists: x has n residues, x A = y, x is 0 on every row that is no pivot row, and z is all zero
--   LeftClosed ..               closed, as left in the lists: z has m residues, A z = 0, y z is not 0, z is 1 at one column that is no pivot column, the
--                               lowest at which y reduced by U is not 0, and 0 at the others, and x is all zero
--   AnswersRight .. y r x z     the answer r with the lists x and z, from the set s:
--     open-exactly              r is open exactly if some x has x A = y
--     closed-exactly            and closed exactly if none has
--     open-left, closed-left    x and z are as described
--     one_value                 open: two settings that give the same slots give y one value
--     every_value               closed: for every setting and every value some setting gives the same slots and gives y that value
--   AnswerOf p n m A y r        r is the answer that some call gave to y, from stored factors or from a certificate, and did not refuse
use Rattle.std.specs.Prelude.{ℕ, ◌≡◌, ◌↔◌, List, length}
use Rattle.lists.specs.Filled.{zeros}
use Rattle.algebra.specs.Congruence.{◌≈⟨◌⟩◌}
use Rattle.algebra.specs.Sum.{dot}
use Rattle.algebra.specs.Matrix.{vector}
use Rattle.algebra.specs.RowSpace.{InRowSpace}
use Rattle.algebra.specs.Answer.{OpenAnswer, ClosedAnswer}
use Rattle.algebra.specs.Settings.{Determined, Undetermined}
use Rattle.sparse.specs.Row.{Below}
use Rattle.sparse.specs.Matrix.{Compressed, matrix}
use Rattle.sparse.specs.Set.{Set}
use Rattle.row_space.specs.Solve.{remainder, lowest_of}
use Rattle.call_answer.specs.Calls.{answer_number, answer_factors_of, answer_certificate_of, Answers}
use Rattle.call_answer.specs.Answer.{Answer}

pub record Askable (p n m : ℕ) (y : List ℕ) (a b : ℕ) : Type 0 where
  pub values : length y ≡ m
  pub rows : a ≡ n
  pub columns : b ≡ m
  pub residues : Below p y

pub record LeftOpen (p n m : ℕ) (A : Compressed) (s : Set) (y x z : List ℕ) : Type 0 where
  pub length-x : length x ≡ n
  pub answer : OpenAnswer p n m s.r (matrix A) (vector s.R) (vector y) (vector x)
  pub z-is : z ≡ zeros m

pub record LeftClosed (p n m : ℕ) (A : Compressed) (s : Set) (y x z : List ℕ) : Type 0 where
  pub length-z : length z ≡ m
  pub answer : ClosedAnswer p n m s.r (matrix A) (vector s.C) (lowest_of m (remainder p s (vector y))) (vector z)
  pub differs : ¬ (dot m (vector y) (vector z) ≈⟨ p ⟩ 0)
  pub x-is : x ≡ zeros n

pub record AnswersRight (p n m : ℕ) (A : Compressed) (s : Set) (y : List ℕ) (r : Answer) (x z : List ℕ) : Type 0 where
  pub open-exactly : (r ≡ Answer.Open) ↔ InRowSpace p n m (matrix A) (vector y)
  pub closed-exactly : (r ≡ Answer.Closed) ↔ (¬ InRowSpace p n m (matrix A) (vector y))
  pub open-left : r ≡ Answer.Open → LeftOpen p n m A s y x z
  pub closed-left : r ≡ Answer.Closed → LeftClosed p n m A s y x z
  pub one_value : r ≡ Answer.Open → Determined p n m (matrix A) (vector y)
  pub every_value : r ≡ Answer.Closed → Undetermined p n m (matrix A) (vector y)

pub data AnswerOf (p n m : ℕ) (A : Compressed) (y : List ℕ) (r : Answer) : Type 0 where
  from_stored : (s : Set) (x₀ x z₀ z w₀ w : List ℕ) → Answers (answer_factors_of p n m A s y (length x₀) (length z₀) (length w₀)) r x₀ x z₀ z w₀ w → answer_number r ≡ 0 → AnswerOf p n m A y r
  from_bytes : (cert x₀ x z₀ z w₀ w : List ℕ) → Answers (answer_certificate_of p n m A cert y (length x₀) (length z₀) (length w₀)) r x₀ x z₀ z w₀ w → answer_number r ≡ 0 → AnswerOf p n m A y r

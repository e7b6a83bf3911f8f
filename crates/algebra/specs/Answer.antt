-- The answer to a question y, by document 01 ("Questions"). The pivot rows and columns are the first r of R and of C.
--   OpenAnswer p n m r A R y x        x A = y, and x is 0 on every row that is no pivot row
--   ClosedAnswer p n m r A C j z      A z = 0, and of the columns that are no pivot columns z has 1 at j and 0 at the others
--   Answer .. y verdict x z           verdict true (open): the remainder of y is zero, x is the open answer and z is all zero;
--                                     verdict false (closed): x is all zero and z is the closed answer at the remainder's lowest column
use Rattle.std.specs.Prelude.{◌≡◌, Bool, true, false, List, ℕ, ◌≤◌, ◌<◌, length, replicate}
use Rattle.algebra.specs.Matrix.{Vector, Matrix, vector}
use Rattle.algebra.specs.RowSpace.{Combines, InKernel}
use Rattle.algebra.specs.Reduction.{reduced, AllZero, Lowest}

pub record OpenAnswer (p n m r : ℕ) (A : Matrix) (R : ℕ → ℕ) (y x : Vector) : Type 0 where
  pub residues : (i : ℕ) → i < n → x i < p
  pub combines : Combines p n m A y x
  pub others : (i : ℕ) → r ≤ i → i < n → x (R i) ≡ 0

pub record ClosedAnswer (p n m r : ℕ) (A : Matrix) (C : ℕ → ℕ) (j : ℕ) (z : Vector) : Type 0 where
  pub residues : (t : ℕ) → t < m → z t < p
  pub kernel : InKernel p n m A z
  pub pivot : (l : ℕ) → l < r → ¬ (C l ≡ j)
  pub one : z j ≡ 1
  pub others : (l : ℕ) → r ≤ l → l < m → ¬ (C l ≡ j) → z (C l) ≡ 0

module _ (p n m r : ℕ) (A : Matrix) (R C : ℕ → ℕ) (U : Matrix) (y : List ℕ) where
  pub record AnswerOpen (x z : List ℕ) : Type 0 where
    pub remainder : AllZero m (reduced p C U r (vector y))
    pub length-x : length x ≡ n
    pub x-is : OpenAnswer p n m r A R (vector y) (vector x)
    pub z-is : z ≡ replicate m 0

  pub record AnswerClosed (x z : List ℕ) : Type 0 where
    pub column : ℕ
    pub remainder : Lowest m (reduced p C U r (vector y)) column
    pub length-z : length z ≡ m
    pub z-is : ClosedAnswer p n m r A C column (vector z)
    pub x-is : x ≡ replicate n 0

  unfoldable pub Answer : Bool → List ℕ → List ℕ → Type 0
  Answer true x z = AnswerOpen x z
  Answer false x z = AnswerClosed x z

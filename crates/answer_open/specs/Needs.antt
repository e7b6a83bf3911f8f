-- What the unit questions need of U, its column order and the lent lists.
--   EchelonPassed p r U C m    U with its column order, as a set that passed has them
--   ReduceFromReady ..         what the reduction of a working row by rows k to r - 1 of U needs
--   UnitReady ..               what the unit question of row k's pivot column needs: the working row is all zero
--   Known ..                   o has the verdict of each column of row k but its pivot column
--   PivotCellReady ..          what the unit question needs, the list o has the open columns of the rows after k, and k's column is closed where o is not 0 there
--   CountReady p k U o         U is well formed, with a column for each cell of o, and k is one of its rows
--   CountingReady p r k U C o  what the verdicts by counts of the first k rows need, where the others are settled
--   ChooseReady p r C z        what the choice of values needs: C is an order of the columns
--   MarkOneReady c z o         c is a place in both lists
--   MarkReady left C z o       the first `left` columns of C are places in both lists
--   RoundReady ..              what a witness needs, where z has a cell for each column
--   WitnessReady ..            what witnesses need: no more columns than a plan may have
--   LeftReady ..               what the unit questions of the first k rows need, where the others are settled
--   NextReady ..               the same, where k is not 0
--   PivotsReady ..             what all unit questions need, where the working row has a cell for each column
--   ColumnsReady ..            the same, where it may have more
use Rattle.std.specs.Prelude.{ℕ, ◌+◌, ◌*◌, ◌≤◌, ◌<◌, ◌≡◌, true, List, length, get_or}
use Rattle.lists.specs.Filled.{zeros}
use Rattle.algebra.specs.Prime.{Prime}
use Rattle.algebra.specs.Matrix.{vector}
use Rattle.sparse.specs.Row.{Below}
use Rattle.sparse.specs.Matrix.{Compressed, row_of, matrix, form}
use Rattle.pluq.specs.Order.{permutation}
use Rattle.pluq.specs.Shape.{upper}
use Rattle.limits.specs.Limits.{largest_size}
use Rattle.answer_open.specs.Opening.{open_cell, Settled}

pub record EchelonPassed (p r : ℕ) (U : Compressed) (C : List ℕ) (m : ℕ) : Type 0 where
  pub prime : Prime p
  pub formed : form p m U ≡ true
  pub rows : r < length U.starts
  pub columns : permutation C ≡ true
  pub long : length C ≡ m
  pub rank : r ≤ m
  pub shaped : upper r (vector C) (matrix U) ≡ true

pub record ReduceFromReady (p k r : ℕ) (U : Compressed) (C w : List ℕ) : Type 0 where
  pub factor : EchelonPassed p r U C (length w)
  pub inside : k ≤ r
  pub below : Below (p * p) w

pub record UnitReady (p k r : ℕ) (U : Compressed) (C w : List ℕ) : Type 0 where
  pub factor : EchelonPassed p r U C (length w)
  pub inside : k < r
  pub clear : w ≡ zeros (length w)

abbrev pub Known : (p r : ℕ) (U : Compressed) (C : List ℕ) (k : ℕ) (o : List ℕ) → Type 0
Known p r U C k o =
    (t : ℕ) → t < length (row_of U.starts k U.cols) → (get_or (row_of U.starts k U.cols) t 0 ≡ get_or C k 0 → ⊥)
    → get_or o (get_or (row_of U.starts k U.cols) t 0) 0 ≡ open_cell p (length o) (vector C) (matrix U) r (get_or (row_of U.starts k U.cols) t 0)

pub record PivotCellReady (p k r : ℕ) (U : Compressed) (C o w : List ℕ) : Type 0 where
  pub unit : UnitReady p k r U C w
  pub long : length o ≡ length w
  pub known : Known p r U C k o
  pub marked : (get_or o (get_or C k 0) 0 ≡ 0 → ⊥) → open_cell p (length w) (vector C) (matrix U) r (get_or C k 0) ≡ 0

pub record CountReady (p k : ℕ) (U : Compressed) (o : List ℕ) : Type 0 where
  pub formed : form p (length o) U ≡ true
  pub inside : k + 1 < length U.starts

pub record CountingReady (p r k : ℕ) (U : Compressed) (C o : List ℕ) : Type 0 where
  pub factor : EchelonPassed p r U C (length o)
  pub settled : Settled p r U C (length o) o k

pub record ChooseReady (p r : ℕ) (C z : List ℕ) : Type 0 where
  pub two : 2 ≤ p
  pub columns : permutation C ≡ true
  pub long : length C ≡ length z

pub record MarkOneReady (c : ℕ) (z o : List ℕ) : Type 0 where
  pub value : c < length z
  pub place : c < length o

pub record MarkReady (left : ℕ) (C z o : List ℕ) : Type 0 where
  pub inside : left ≤ length C
  pub values : Below (length z) C
  pub places : Below (length o) C

pub record RoundReady (p r left : ℕ) (U : Compressed) (C z o : List ℕ) : Type 0 where
  pub factor : EchelonPassed p r U C (length o)
  pub inside : left ≤ r
  pub long : length z ≡ length o

pub record WitnessReady (p r left : ℕ) (U : Compressed) (C o : List ℕ) : Type 0 where
  pub factor : EchelonPassed p r U C (length o)
  pub inside : left ≤ r
  pub narrow : length o ≤ largest_size

pub record LeftReady (p r k : ℕ) (U : Compressed) (C o w : List ℕ) : Type 0 where
  pub factor : EchelonPassed p r U C (length o)
  pub settled : Settled p r U C (length o) o k
  pub long : length o ≡ length w
  pub clear : w ≡ zeros (length w)

pub record NextReady (p r k : ℕ) (U : Compressed) (C o w : List ℕ) : Type 0 where
  pub some : 0 < k
  pub ready : LeftReady p r k U C o w

pub record PivotsReady (p r : ℕ) (U : Compressed) (C o w : List ℕ) : Type 0 where
  pub factor : EchelonPassed p r U C (length o)
  pub narrow : length o ≤ largest_size
  pub long : length o ≡ length w
  pub clear : w ≡ zeros (length w)

pub record ColumnsReady (p r : ℕ) (U : Compressed) (C o w : List ℕ) : Type 0 where
  pub factor : EchelonPassed p r U C (length o)
  pub narrow : length o ≤ largest_size
  pub room : length o ≤ length w
  pub clear : w ≡ zeros (length w)

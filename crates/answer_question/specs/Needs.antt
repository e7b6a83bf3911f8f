-- What the reduction of a question and its answer need of a set that passed and of the lent lists.
--   EliminationReady p k c U w    row k of U, with a column for each cell of w, can be taken away so that column c is cleared
--   ReduceReady p r U C w         the first r rows of U have their pivot columns in C, and w has residues
--   MultiplesReady ..             the same, and the list a has room for r numbers
--   QuestionReady ..              what the reduction of a question y needs; the multiples go to the list a
--   OpenReady p L R x z w         what x needs: the multiples stand in the first cells of z, one for each cell of w
--   ClosedReady p r j U C z       what z needs: j is one of its places
--   SetReady p n m s              s has its form, its shape and its lengths, as a set that passed has
--   AnswerReady p s y x z w       the lent lists have their lengths, y has residues, and the working row is all zero
use Rattle.std.specs.Prelude.{ℕ, ◌+◌, ◌*◌, ◌≤◌, ◌<◌, ◌≡◌, true, List, length, get_or}
use Rattle.lists.specs.Filled.{zeros}
use Rattle.algebra.specs.Prime.{Prime}
use Rattle.algebra.specs.Matrix.{vector}
use Rattle.sparse.specs.Row.{Below}
use Rattle.sparse.specs.Matrix.{Compressed, matrix, form}
use Rattle.sparse.specs.Set.{Set}
use Rattle.pluq.specs.Order.{permutation}
use Rattle.pluq.specs.Shape.{lower, upper}

pub record EliminationReady (p k c : ℕ) (U : Compressed) (w : List ℕ) : Type 0 where
  pub positive : 0 < p
  pub formed : form p (length w) U ≡ true
  pub inside : k + 1 < length U.starts
  pub column : c < length w
  pub below : Below (p * p) w

pub record ReduceReady (p r : ℕ) (U : Compressed) (C w : List ℕ) : Type 0 where
  pub positive : 0 < p
  pub formed : form p (length w) U ≡ true
  pub rows : r < length U.starts
  pub order : r ≤ length C
  pub places : Below (length w) C
  pub small : Below p w

pub record MultiplesReady (p r : ℕ) (U : Compressed) (C a w : List ℕ) : Type 0 where
  pub ready : ReduceReady p r U C w
  pub room : r ≤ length a

pub record QuestionReady (p r : ℕ) (U : Compressed) (C y a w : List ℕ) : Type 0 where
  pub positive : 0 < p
  pub formed : form p (length w) U ≡ true
  pub rows : r < length U.starts
  pub order : r ≤ length C
  pub places : Below (length w) C
  pub room : r ≤ length a
  pub long : length y ≡ length w
  pub small : Below p y

pub record OpenReady (p : ℕ) (L : Compressed) (R x z w : List ℕ) : Type 0 where
  pub prime : Prime p
  pub formed : form p (length w) L ≡ true
  pub rows : length w < length L.starts
  pub shaped : lower (length w) (matrix L) ≡ true
  pub order : permutation R ≡ true
  pub long : length R ≡ length x
  pub rank-rows : length w ≤ length x
  pub rank-columns : length w ≤ length z
  pub small : (k : ℕ) → k < length w → get_or z k 0 < p

pub record ClosedReady (p r j : ℕ) (U : Compressed) (C z : List ℕ) : Type 0 where
  pub prime : Prime p
  pub formed : form p (length z) U ≡ true
  pub rows : r < length U.starts
  pub order : r ≤ length C
  pub places : Below (length z) C
  pub inside : j < length z

pub record SetReady (p n m : ℕ) (s : Set) : Type 0 where
  pub prime : Prime p
  pub long-R : length s.R ≡ n
  pub long-C : length s.C ≡ m
  pub long_L : length s.L.starts ≡ n + 1
  pub long-U : length s.U.starts ≡ s.r + 1
  pub rows : permutation s.R ≡ true
  pub columns : permutation s.C ≡ true
  pub rank-rows : s.r ≤ n
  pub rank-columns : s.r ≤ m
  pub L-form : form p s.r s.L ≡ true
  pub U-form : form p m s.U ≡ true
  pub L-shape : lower s.r (matrix s.L) ≡ true
  pub U-shape : upper s.r (vector s.C) (matrix s.U) ≡ true

pub record AnswerReady (p : ℕ) (s : Set) (y x z w : List ℕ) : Type 0 where
  pub set : SetReady p (length x) (length z) s
  pub long : length y ≡ length z
  pub small : Below p y
  pub room : length z ≤ length w
  pub clear : w ≡ zeros (length w)

-- What the answer to slot values needs of a set that passed and of the lent lists.
--   LackingReady p k d A z         A is well formed, with a column for each value of z, and k is one of its rows; z and d are residues
--   ForwardRowReady p k d L t      row k of L, with a column for each value of t, can be solved for its diagonal
--   ForwardReady p L R h t         L is well formed and lower triangular, R gives each row a slot value in h, and t is all zero
--   GapsReady p L R h t            the same for the rows after the first, where the values t solve those: none of them has a gap
--   GapReady p i L R h t           the same, and i is one of the rows
--   BetterReady p i b L R h t      the same, and b is the lowest-numbered slot with a gap so far
--   UpperValuesReady p U C t s     U is well formed, with a row for each value of t and a column for each cell of s; C gives each row a place in s
--   ContradictReady p i L R w work   row i of L can be taken away from the working row, and w is all zero
--   ValuesReady p r L R h w        L is well formed and lower triangular, R gives each row a slot value in h, and the first r cells of w have room for the values
--   SolvedReady p r U C s w        U is well formed, with a column for each cell of s; C gives each row a place in s, and the first r cells of w are the values
--   ContradictedReady p r i L R w work   row i of L can be taken away from the first r cells of the working row, which is all zero
--   SlotsReady p s h st w work     the set is ready, the lent lists have their lengths, h has residues, and the working row is all zero
use Rattle.std.specs.Prelude.{ℕ, ◌+◌, ◌≤◌, ◌<◌, ◌≡◌, true, List, length, take}
use Rattle.lists.specs.Filled.{zeros}
use Rattle.algebra.specs.Prime.{Prime}
use Rattle.algebra.specs.Matrix.{vector}
use Rattle.sparse.specs.Row.{Below}
use Rattle.sparse.specs.Matrix.{Compressed, matrix, form}
use Rattle.sparse.specs.Set.{Set}
use Rattle.pluq.specs.Order.{permutation}
use Rattle.pluq.specs.Shape.{lower}
use Rattle.row_space.specs.Needs.{UpperRowReady, UpperReady}
use Rattle.answer_question.specs.Needs.{SetReady}
use Rattle.answer_slots.specs.Solving.{gap_from, LowestBelow}

pub record LackingReady (p k d : ℕ) (A : Compressed) (z : List ℕ) : Type 0 where
  pub ready : UpperRowReady p k A z
  pub residue : d < p

pub record ForwardRowReady (p k d : ℕ) (L : Compressed) (t : List ℕ) : Type 0 where
  pub prime : Prime p
  pub formed : form p (length t) L ≡ true
  pub rows : length t < length L.starts
  pub shaped : lower (length t) (matrix L) ≡ true
  pub inside : k < length t
  pub small : Below p t
  pub residue : d < p

pub record ForwardReady (p : ℕ) (L : Compressed) (R h t : List ℕ) : Type 0 where
  pub prime : Prime p
  pub formed : form p (length t) L ≡ true
  pub rows : length t < length L.starts
  pub shaped : lower (length t) (matrix L) ≡ true
  pub order : permutation R ≡ true
  pub long : length R ≡ length h
  pub rank : length t ≤ length h
  pub small : Below p h
  pub clear : t ≡ zeros (length t)

pub record GapsReady (p : ℕ) (L : Compressed) (R h t : List ℕ) : Type 0 where
  pub positive : 0 < p
  pub formed : form p (length t) L ≡ true
  pub rows : length L.starts ≡ length h + 1
  pub order : permutation R ≡ true
  pub long : length R ≡ length h
  pub rank : length t ≤ length h
  pub small-h : Below p h
  pub small-t : Below p t
  pub solved : (k : ℕ) → k < length t → gap_from p (vector R) (matrix L) (vector h) t k ≡ 0

pub record GapReady (p i : ℕ) (L : Compressed) (R h t : List ℕ) : Type 0 where
  pub ready : GapsReady p L R h t
  pub inside : i < length h

pub record BetterReady (p i b : ℕ) (L : Compressed) (R h t : List ℕ) : Type 0 where
  pub gap : GapReady p i L R h t
  pub lowest : LowestBelow (length h) (vector R) (gap_from p (vector R) (matrix L) (vector h) t) i b

pub record UpperValuesReady (p : ℕ) (U : Compressed) (C t s : List ℕ) : Type 0 where
  pub ready : UpperReady p (length t) U C s
  pub values : Below p t

pub record ContradictReady (p i : ℕ) (L : Compressed) (R w work : List ℕ) : Type 0 where
  pub prime : Prime p
  pub formed : form p (length work) L ≡ true
  pub rows : length L.starts ≡ length w + 1
  pub shaped : lower (length work) (matrix L) ≡ true
  pub order : permutation R ≡ true
  pub long : length R ≡ length w
  pub rank : length work ≤ length w
  pub inside : i < length w
  pub clear : w ≡ zeros (length w)
  pub row : work ≡ zeros (length work)

pub record ValuesReady (p r : ℕ) (L : Compressed) (R h w : List ℕ) : Type 0 where
  pub prime : Prime p
  pub formed : form p r L ≡ true
  pub rows : length L.starts ≡ length h + 1
  pub shaped : lower r (matrix L) ≡ true
  pub order : permutation R ≡ true
  pub long : length R ≡ length h
  pub room : length w ≡ length h
  pub rank : r ≤ length h
  pub small : Below p h

pub record SolvedReady (p r : ℕ) (U : Compressed) (C s w : List ℕ) : Type 0 where
  pub positive : 0 < p
  pub formed : form p (length s) U ≡ true
  pub rows : r < length U.starts
  pub order : r ≤ length C
  pub places : Below (length s) C
  pub rank : r ≤ length w
  pub values : Below p (take r w)

pub record ContradictedReady (p r i : ℕ) (L : Compressed) (R w work : List ℕ) : Type 0 where
  pub prime : Prime p
  pub formed : form p r L ≡ true
  pub rows : length L.starts ≡ length w + 1
  pub shaped : lower r (matrix L) ≡ true
  pub order : permutation R ≡ true
  pub long : length R ≡ length w
  pub rank : r ≤ length w
  pub inside : i < length w
  pub room : r ≤ length work
  pub clear : work ≡ zeros (length work)

pub record SlotsReady (p : ℕ) (s : Set) (h st w work : List ℕ) : Type 0 where
  pub set : SetReady p (length w) (length st) s
  pub long : length h ≡ length w
  pub small : Below p h
  pub room : length w ≤ length work
  pub clear : work ≡ zeros (length work)

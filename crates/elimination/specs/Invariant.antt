-- What holds of the pivots and the dependent rows while they are found.
--   cells us                   the rows of a list as a matrix
--   UpperRow p m cs k u        u is row k of U, where cs are the pivot columns: 1 at its own, 0 at those before it
--   Echelon p m cs us          so are all rows of us, one for each of cs
--   Lower p n m A us i ls      row i of A is the combination of the rows of U that its row of L states
--   PivotRow p n m A us k q    row k of L, up to the diagonal, is that of the pivot q
--   Invariant p n m A f        the rows of U have their shape, and those of L combine them to the rows of A
--   no_pivot, no_dependent       read past the end of a list
use Rattle.std.specs.Prelude.{◌≡◌, List, [], ℕ, suc, ◌≤◌, ◌<◌, length, get_or}
use Rattle.algebra.specs.Congruence.{◌≈⟨◌⟩◌}
use Rattle.algebra.specs.Sum.{dot}
use Rattle.algebra.specs.Matrix.{Matrix, vector}
use Rattle.elimination.specs.Pivots.{Pivot, Dependent, Found, columns_of, uppers_of, rank_of}

abbrev pub no_pivot : Pivot
no_pivot = record { row = 0; column = 0; lower = []; upper = [] }

abbrev pub no_dependent : Dependent
no_dependent = record { row = 0; lower = [] }

abbrev pub cells : List (List ℕ) → Matrix
cells us = λ k j. get_or (get_or us k []) j 0

pub record UpperRow (p m : ℕ) (cs : List ℕ) (k : ℕ) (u : List ℕ) : Type 0 where
  pub wide : length u ≡ m
  pub residues : (j : ℕ) → get_or u j 0 < p
  pub inside : get_or cs k 0 < m
  pub left : (j : ℕ) → j < k → get_or u (get_or cs j 0) 0 ≡ 0
  pub unit : get_or u (get_or cs k 0) 0 ≡ 1

pub record Echelon (p m : ℕ) (cs : List ℕ) (us : List (List ℕ)) : Type 0 where
  pub as_many : length us ≡ length cs
  pub rows : (k : ℕ) → k < length us → UpperRow p m cs k (get_or us k [])

pub record Lower (p n m : ℕ) (A : Matrix) (us : List (List ℕ)) (i : ℕ) (ls : List ℕ) : Type 0 where
  pub row : i < n
  pub narrow : length ls ≤ length us
  pub residues : (k : ℕ) → get_or ls k 0 < p
  pub product : (j : ℕ) → j < m → A i j ≈⟨ p ⟩ dot (length us) (vector ls) (λ k. cells us k j)

pub record PivotRow (p n m : ℕ) (A : Matrix) (us : List (List ℕ)) (k : ℕ) (q : Pivot) : Type 0 where
  pub long : length q.lower ≡ suc k
  pub diagonal : ¬ (get_or q.lower k 0 ≡ 0)
  pub combines : Lower p n m A us q.row q.lower

pub record Invariant (p n m : ℕ) (A : Matrix) (f : Found) : Type 0 where
  pub echelon : Echelon p m (columns_of f) (uppers_of f)
  pub pivot-rows : (k : ℕ) → k < rank_of f → PivotRow p n m A (uppers_of f) k (get_or f.pivots k no_pivot)
  pub dependent-rows : (k : ℕ) → k < length f.dependents → Lower p n m A (uppers_of f) (get_or f.dependents k no_dependent).row (get_or f.dependents k no_dependent).lower

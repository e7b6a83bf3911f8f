-- What the factoring of a stored matrix is lent.
--   AllClear h               everything is all zero
--   factoring_in p s A h      factoring from the pairs that the first s places of R and C hold, with the room of the lists of L and of U
--   FactorReady p n m A h    an n by m matrix in its form, lists of its sizes, and everything that is lent is all zero
use Rattle.std.specs.Prelude.{ℕ, ◌≡◌, length}
use Rattle.lists.specs.Filled.{zeros}
use Rattle.sparse.specs.Matrix.{Compressed, matrix}
use Rattle.sparse.specs.Set.{Storage}
use Rattle.factor_turn.specs.Passing.{pairs_of, Cleared}
use Rattle.factor_passes.specs.Needs.{PassLists}
use Rattle.factor_all.specs.Factorization.{Factorization, factoring_from}

pub record AllClear (h : Storage) : Type 0 where
  pub R-clear : h.R ≡ zeros (length h.R)
  pub C-clear : h.C ≡ zeros (length h.C)
  pub L-clear : Cleared h.L
  pub U-clear : Cleared h.U
  pub w-clear : h.work ≡ zeros (length h.work)

abbrev pub factoring_in : (p s : ℕ) → Compressed → Storage → Factorization
factoring_in p s A h = factoring_from p (length h.R) (length h.C) (matrix A) (length h.L.cols) (length h.U.cols) (pairs_of s h.R h.C)

pub record FactorReady (p n m : ℕ) (A : Compressed) (h : Storage) : Type 0 where
  pub lists : PassLists p A h
  pub n-rows : length h.R ≡ n
  pub m-columns : length h.C ≡ m
  pub clear : AllClear h

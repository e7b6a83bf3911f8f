-- What the pass and what is done after it need of what is lent to the factoring.
--   narrowed h                  the lists of h, with as many cells of the working row as there are columns
--   PassLists p A h             these are lent as a turn takes them; no size is over its limit, and the working row is all zero and as long as both sizes
--   FromReady p s A h           the first s places of R and C hold pairs that can be pivots as they stand; the factors' lists are all zero
--   CompleteReady R C L w ..    what the first pass found is held (FoundFrom), for some f; the sizes are within their limit, and the working row is all zero and as long as both
use Rattle.std.specs.Prelude.{ℕ, ◌≤◌, ◌≡◌, List, length, take}
use Rattle.limits.specs.Limits.{largest_size}
use Rattle.lists.specs.Filled.{zeros}
use Rattle.sparse.specs.Matrix.{Compressed, matrix}
use Rattle.sparse.specs.Set.{Storage, storage_of}
use Rattle.elimination.specs.Pairs.{Pairs}
use Rattle.elimination.specs.Pivots.{Found}
use Rattle.factor_turn.specs.Needs.{Lent}
use Rattle.factor_turn.specs.Passing.{pairs_of, Cleared}
use Rattle.factor_passes.specs.Completing.{FoundFrom}

abbrev pub narrowed : Storage → Storage
narrowed h = storage_of h.R h.C h.L h.U (take (length h.C) h.work)

pub record PassLists (p : ℕ) (A : Compressed) (h : Storage) : Type 0 where
  pub lent : Lent p A (narrowed h)
  pub n-narrow : length h.R ≤ largest_size
  pub m-narrow : length h.C ≤ largest_size
  pub n-fits : length h.R ≤ length h.work
  pub m-fits : length h.C ≤ length h.work
  pub clear : h.work ≡ zeros (length h.work)

pub record FromReady (p s : ℕ) (A : Compressed) (h : Storage) : Type 0 where
  pub lists : PassLists p A h
  pub rows_inside : s ≤ length h.R
  pub columns-inside : s ≤ length h.C
  pub pairs : Pairs (length h.R) (length h.C) (matrix A) (pairs_of s h.R h.C)
  pub L-clear : Cleared h.L
  pub U-clear : Cleared h.U

pub record CompleteReady (R C : List ℕ) (L : Compressed) (w : List ℕ) (r l total : ℕ) : Type 0 where
  pub n-narrow : length R ≤ largest_size
  pub m-narrow : length C ≤ largest_size
  pub n-fits : length R ≤ length w
  pub m-fits : length C ≤ length w
  pub clear : w ≡ zeros (length w)
  pub f : Found
  pub from : FoundFrom R C L r l total f

-- What the turns and the passes need.
--   Enterable step r ..               a pivot row can be entered as the next, and each number of `step` fits in its list
--   SettleReady step from m ..        so it can, or the row of L of a dependent row can be kept, where its entries fitted
--   Lent p A h                        what is lent to the factoring: a stored matrix in its form, lists of its sizes, and a working row that is all zero
--   PairAt m A i r C                  row i can be the pivot row of column C[r] as it stands
--   TurnReady p i paired A h from     row i can be taken, where the lists hold what was found before it
--   PassReady p s A h                 at most 2048 columns; the pairs can be pivots as they stand, R has their rows and then the other rows rising, C their columns and, where at most
--                                     32 rows and columns are left, the others rising; the factors' lists are all zero
use Rattle.std.specs.Prelude.{ℕ, ◌+◌, ◌*◌, ◌^◌, ◌≤◌, ◌<◌, ◌≡◌, Bool, true, false, List, ◌++◌, length, get_or, take}
use Rattle.lists.specs.Filled.{zeros}
use Rattle.algebra.specs.Prime.{Prime}
use Rattle.algebra.specs.Matrix.{Matrix}
use Rattle.sparse.specs.Matrix.{Compressed, form, matrix}
use Rattle.sparse.specs.Set.{Storage}
use Rattle.elimination.specs.Pairs.{Pairs}
use Rattle.elimination.specs.Pivots.{Found}
use Rattle.lists.specs.Rest.{rest}
use Rattle.elimination.specs.Invariant.{Invariant}
use Rattle.factor_row.specs.declared.pivot_row.Step.{Step}
use Rattle.factor_turn.specs.declared.turn.Progress.{Progress}
use Rattle.factor_turn.specs.State.{StateOf}
use Rattle.factor_turn.specs.Passing.{pairs_of, Cleared}
use Rattle.factor_turn.specs.Keeping.{KeepReady}

-- ---- one turn

pub record Enterable (step : Step) (r : ℕ) (R C ls us : List ℕ) : Type 0 where
  pub column : step.column < 2 ^ 32
  pub U-end : step.at < 2 ^ 32
  pub L-end : step.l < 2 ^ 32
  pub rows : r < length R
  pub columns : r < length C
  pub L-starts : r + 1 < length ls
  pub U-starts : r + 1 < length us

pub record SettleReady (step : Step) (from : Progress) (m : ℕ) (R C : List ℕ) (L : Compressed) (us : List ℕ) : Type 0 where
  pub kept : step.over ≡ false → step.column ≡ m → KeepReady step.l from.total step.total (from.d + 1) L.starts L.cols L.vals
  pub entered : step.over ≡ false → ¬ (step.column ≡ m) → Enterable step from.r R C L.starts us

pub record Lent (p : ℕ) (A : Compressed) (h : Storage) : Type 0 where
  pub prime : Prime p
  pub formed : form p (length h.work) A ≡ true
  pub rows : length A.starts ≡ length h.R + 1
  pub columns : length h.C ≡ length h.work
  pub L-starts : length h.L.starts ≡ length h.R + 1
  pub U-starts : length h.U.starts ≡ length h.R + 1
  pub L-paired : length h.L.cols ≡ length h.L.vals
  pub U-paired : length h.U.cols ≡ length h.U.vals
  pub n-narrow : length h.R ≤ 2 ^ 32
  pub m-narrow : length h.work ≤ 2 ^ 32
  pub small : length h.R * length h.work < 2 ^ 32
  pub clear : h.work ≡ zeros (length h.work)

pub record PairAt (m : ℕ) (A : Matrix) (i r : ℕ) (C : List ℕ) : Type 0 where
  pub inside : r < m
  pub column : get_or C r 0 < m
  pub here : ¬ (A i (get_or C r 0) ≡ 0)
  pub before : (k : ℕ) → k < r → A i (get_or C k 0) ≡ 0

pub record TurnReady (p i : ℕ) (paired : Bool) (A : Compressed) (h : Storage) (from : Progress) : Type 0 where
  pub lent : Lent p A h
  pub row : i < length h.R
  pub more : from.r + from.d < length h.R
  pub L-room : from.total ≤ length h.L.cols
  pub U-room : from.at ≤ length h.U.cols
  pub f : Found
  pub holds : Invariant p (length h.R) (length h.work) (matrix A) f
  pub state : StateOf f h from
  pub pair : paired ≡ true → PairAt (length h.work) (matrix A) i from.r h.C

-- ---- the first pass

pub record PassReady (p s : ℕ) (A : Compressed) (h : Storage) : Type 0 where
  pub lent : Lent p A h
  pub rows_inside : s ≤ length h.R
  pub columns-inside : s ≤ length h.C
  pub pairs : Pairs (length h.R) (length h.work) (matrix A) (pairs_of s h.R h.C)
  pub order : h.R ≡ take s h.R ++ rest (take s h.R) (length h.R)
  pub narrow : length h.work ≤ 2048
  pub columns-order : length h.R ≤ s + 32 → length h.work ≤ s + 32 → h.C ≡ take s h.C ++ rest (take s h.C) (length h.C)
  pub L-clear : Cleared h.L
  pub U-clear : Cleared h.U

-- The rows that have no structural pivot, taken one after another.
--   RowsFrom p A h from f         the lists h hold what is found, f, where the factoring is as far as `from`
--   TurnsLeave p m A .. f ts h to the lists h hold what the turns ts find after f, unless the entries of a row did not fit: then that row is the first such
--   RowsTaken p s A h₀ h from to  so it is of the turns of the rows of h₀ after the first s, for every f that its lists may hold; and the working row is all zero
--   RestReady p s A h from        the lists hold what is found, s pivots and no dependent row, and all entries fitted so far; the rows after the first s are rows of A
use Rattle.std.specs.Prelude.{ℕ, ◌≤◌, ◌<◌, ◌≡◌, true, false, List, map, length, get_or, drop}
use Rattle.std.proofs.Math.Option.{none, some}
use Rattle.lists.specs.Filled.{zeros}
use Rattle.algebra.specs.Matrix.{Matrix}
use Rattle.sparse.specs.Matrix.{Compressed, matrix}
use Rattle.sparse.specs.Set.{Storage}
use Rattle.elimination.specs.Pivots.{Found, Turn, other, turns}
use Rattle.elimination.specs.Factoring.{first_over}
use Rattle.elimination.specs.Invariant.{Invariant}
use Rattle.factor_turn.specs.declared.turn.Progress.{Progress}
use Rattle.factor_turn.specs.declared.turn.Pass.{Pass}
use Rattle.factor_turn.specs.State.{StateOf}
use Rattle.factor_turn.specs.Needs.{Lent}

pub record RowsFrom (p : ℕ) (A : Compressed) (h : Storage) (from : Progress) (f : Found) : Type 0 where
  pub holds : Invariant p (length h.R) (length h.work) (matrix A) f
  pub state : StateOf f h from

pub record TurnsLeave (p m : ℕ) (A : Matrix) (roomL roomU : ℕ) (f : Found) (ts : List Turn) (h : Storage) (to : Pass) : Type 0 where
  pub stopped : to.progress.over ≡ true → first_over p m A roomL roomU f ts ≡ some to.stop
  pub fitted : to.progress.over ≡ false → first_over p m A roomL roomU f ts ≡ none
  pub state : to.progress.over ≡ false → StateOf (turns p m A f ts) h to.progress

pub record RowsTaken (p s : ℕ) (A : Compressed) (h₀ h : Storage) (from : Progress) (to : Pass) : Type 0 where
  pub found : (f : Found) → RowsFrom p A h₀ from f
      → TurnsLeave p (length h₀.work) (matrix A) (length h₀.L.cols) (length h₀.U.cols) f (map other (drop s h₀.R)) h to
  pub clear : to.progress.over ≡ false → h.work ≡ zeros (length h₀.work)

pub record RestReady (p s : ℕ) (A : Compressed) (h : Storage) (from : Progress) : Type 0 where
  pub going : from.over ≡ false
  pub lent : Lent p A h
  pub rank : from.r ≡ s
  pub alone : from.d ≡ 0
  pub rows_inside : s ≤ length h.R
  pub L-room : from.total ≤ length h.L.cols
  pub U-room : from.at ≤ length h.U.cols
  pub below : (k : ℕ) → s ≤ k → k < length h.R → get_or h.R k 0 < length h.R
  pub f : Found
  pub held : RowsFrom p A h from f

-- The first pass: every row in the order of the schedule.
--   pairs_in is cs               the pairs of the rows `is` and the columns `cs`, place by place
--   pairs_of s R C               the pairs that the first s places of R and C hold
--   Cleared h                   the lists of h are all zero
--   PassLeaves p s m A h₀ h to  the lists h hold what the schedule of the orders of h₀ finds, and the working row is all zero, unless the entries of a row did
--                               not fit: then that row is the first such
use Rattle.std.specs.Prelude.{ℕ, ◌≡◌, true, false, List, [], ◌∷◌, length, take}
use Rattle.std.proofs.Math.Option.{none, some}
use Rattle.lists.specs.Filled.{zeros}
use Rattle.sparse.specs.Matrix.{Compressed, matrix}
use Rattle.sparse.specs.Set.{Storage}
use Rattle.elimination.specs.Structural.{Pair}
use Rattle.elimination.specs.Pivots.{turns}
use Rattle.elimination.specs.Factoring.{schedule, nothing, first_over}
use Rattle.factor_turn.specs.declared.turn.Pass.{Pass}
use Rattle.factor_turn.specs.State.{StateOf}

unfoldable pub pairs_in : List ℕ → List ℕ → List Pair
pairs_in [] cs = []
pairs_in (i ∷ is) [] = []
pairs_in (i ∷ is) (c ∷ cs) = record { row = i; column = c } ∷ pairs_in is cs

abbrev pub pairs_of : ℕ → List ℕ → List ℕ → List Pair
pairs_of s R C = pairs_in (take s R) (take s C)

pub record Cleared (h : Compressed) : Type 0 where
  pub starts : h.starts ≡ zeros (length h.starts)
  pub columns : h.cols ≡ zeros (length h.cols)
  pub values : h.vals ≡ zeros (length h.vals)

pub record PassLeaves (p s m : ℕ) (A : Compressed) (h₀ h : Storage) (to : Pass) : Type 0 where
  pub stopped : to.progress.over ≡ true
      → first_over p m (matrix A) (length h₀.L.cols) (length h₀.U.cols) nothing (schedule (length h₀.R) (pairs_of s h₀.R h₀.C)) ≡ some to.stop
  pub fitted : to.progress.over ≡ false
      → first_over p m (matrix A) (length h₀.L.cols) (length h₀.U.cols) nothing (schedule (length h₀.R) (pairs_of s h₀.R h₀.C)) ≡ none
  pub state : to.progress.over ≡ false → StateOf (turns p m (matrix A) nothing (schedule (length h₀.R) (pairs_of s h₀.R h₀.C))) h to.progress
  pub clear : to.progress.over ≡ false → h.work ≡ zeros (length h₀.work)

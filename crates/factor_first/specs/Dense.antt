-- The rows that have no structural pivot, taken in the block. The first s rows of U, with `first` entries, are those of the structural pivots.
--   fits_block n m s                    at most 32 of n rows and 32 of m columns are left after the first s
--   TailCopied s list r                r begins with the numbers of the list from place s on
--   DenseState s first width ..        what the block holds of the pivots found: those after the first s, at the columns js that are no structural pivots
--   DenseTurned p i s first ..         row i was taken in the block, as the definition's turn says, and the block holds what is found with it
use Rattle.std.specs.Prelude.{ℕ, ◌-◌, ◌≤◌, ◌≡◌, Bool, false, ◌&&◌, List, leb, length, take, drop, set}
use Rattle.algebra.specs.Matrix.{vector}
use Rattle.sparse.specs.Matrix.{Compressed, matrix}
use Rattle.sparse.specs.Set.{Storage}
use Rattle.elimination.specs.Pivots.{Found, columns_of, uppers_of, upper_of, rank_of, other, turn}
use Rattle.elimination.specs.Factoring.{entries}
use Rattle.factor_dense.specs.Block.{LeftColumns, BlockHolds}
use Rattle.factor_turn.specs.declared.turn.Progress.{Progress}
use Rattle.factor_turn.specs.State.{StateOf}
use Rattle.factor_turn.specs.Turning.{TurnLeaves}
use Rattle.factor_first.specs.declared.dense.DenseTurn.{DenseTurn}

abbrev pub fits_block : ℕ → ℕ → ℕ → Bool
fits_block n m s = leb (n - s) 32 && leb (m - s) 32

pub record TailCopied (s : ℕ) (list r : List ℕ) : Type 0 where
  pub long : length r ≡ 32
  pub front : take (length list - s) r ≡ drop s list

pub record DenseState (s first width : ℕ) (js ks : List ℕ) (block : List (List ℕ)) (m : ℕ) (f : Found) : Type 0 where
  pub low : s ≤ rank_of f
  pub start : first ≡ entries (take s (uppers_of f))
  pub left : LeftColumns m s (vector (columns_of f)) width (vector js)
  pub holds : BlockHolds s (rank_of f - s) width (vector js) (vector ks) (vector (columns_of f)) (upper_of f) block

pub record DenseTurned (p i s first width : ℕ) (js ks : List ℕ) (block : List (List ℕ)) (A : Compressed) (h₀ h : Storage) (from : Progress) (to : DenseTurn) : Type 0 where
  pub turned : TurnLeaves p i false A h₀ h from to.progress
  pub grown : to.progress.over ≡ false → (f : Found) → StateOf f h₀ from → DenseState s first width js ks block (length h₀.work) f
      → DenseState s first width js (set ks (from.r - s) to.place) (set block (from.r - s) to.row) (length h₀.work) (turn p (length h₀.work) (matrix A) f (other i))

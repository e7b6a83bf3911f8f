-- The rows that have no structural pivot: what taking them by way of the blocks that they touch needs, and where each pivot column has its place.
--   PlaceReady s C place             the first s columns of C can be given their places, and no column has one yet
--   PlacesFilled s C place₀ place    so they are, and no other column has one
--   EnterReady r found C place       column r of C can be given its place, where r is below `found`
--   PlaceEntered r found C ..        so it is
--   MarkedTurnReady p i place A ..   row i can be taken, where each pivot column has its place
--   OthersReady p s A h from         the rows after the first s can be taken one by one, by way of 2048 columns at most
use Rattle.std.specs.Prelude.{ℕ, ◌^◌, ◌≤◌, ◌<◌, ◌≡◌, false, List, length, get_or, set}
use Rattle.algebra.specs.Matrix.{Distinct, vector}
use Rattle.sparse.specs.Matrix.{Compressed}
use Rattle.sparse.specs.Set.{Storage}
use Rattle.factor_marked.specs.Needs.{Placed}
use Rattle.factor_turn.specs.declared.turn.Progress.{Progress}
use Rattle.factor_turn.specs.Needs.{TurnReady}
use Rattle.factor_turn.specs.Others.{RestReady}

pub record PlaceReady (s : ℕ) (C place : List ℕ) : Type 0 where
  pub inside : s ≤ length C
  pub few : s ≤ 2048
  pub distinct : Distinct s (length place) (vector C)
  pub none : (j : ℕ) → j < length place → get_or place j 0 ≡ 2048

pub record PlacesFilled (s : ℕ) (C place₀ place : List ℕ) : Type 0 where
  pub long : length place ≡ length place₀
  pub placed : Placed s C place (length place₀)

pub record EnterReady (r found : ℕ) (C place : List ℕ) : Type 0 where
  pub narrow : found < 2 ^ 32
  pub rank : r < found → r < length C
  pub column : r < found → get_or C r 0 < length place

pub record PlaceEntered (r found : ℕ) (C place₀ place : List ℕ) : Type 0 where
  pub entered : r < found → place ≡ set place₀ (get_or C r 0) r
  pub same : found ≤ r → place ≡ place₀

pub record MarkedTurnReady (p i : ℕ) (place : List ℕ) (A : Compressed) (h : Storage) (from : Progress) : Type 0 where
  pub turn : TurnReady p i false A h from
  pub placed : Placed from.r h.C place (length h.work)
  pub narrow : length h.work ≤ 2048

pub record OthersReady (p s : ℕ) (A : Compressed) (h : Storage) (from : Progress) : Type 0 where
  pub ready : RestReady p s A h from
  pub narrow : length h.work ≤ 2048

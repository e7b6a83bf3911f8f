-- What taking the rows that have no structural pivot needs.
--   DenseTurnReady p i s first ..   row i can be taken in the block
--   RowsReady p s A h from          the rows after the first s can be taken in the block: at most 32 rows and 32 columns are left, and C has the columns after its first s, rising
--   RemainingReady p s A h from     they can be taken one by one, and in the block where so few are left
use Rattle.std.specs.Prelude.{ℕ, ◌+◌, ◌≤◌, ◌<◌, ◌≡◌, false, List, ◌++◌, length, take}
use Rattle.sparse.specs.Matrix.{Compressed}
use Rattle.sparse.specs.Set.{Storage}
use Rattle.lists.specs.Rest.{rest}
use Rattle.factor_turn.specs.declared.turn.Progress.{Progress}
use Rattle.factor_turn.specs.Needs.{TurnReady}
use Rattle.factor_turn.specs.Others.{RestReady}
use Rattle.factor_first.specs.Dense.{DenseState}

pub record DenseTurnReady (p i s first width : ℕ) (js ks : List ℕ) (block : List (List ℕ)) (A : Compressed) (h : Storage) (from : Progress) : Type 0 where
  pub turn : TurnReady p i false A h from
  pub rows : from.r < s + 32
  pub narrow : width ≤ 32
  pub ks-long : length ks ≡ 32
  pub block-long : length block ≡ 32
  pub state : DenseState s first width js ks block (length h.work) turn.f

pub record RowsReady (p s : ℕ) (A : Compressed) (h : Storage) (from : Progress) : Type 0 where
  pub ready : RestReady p s A h from
  pub columns-inside : s ≤ length h.C
  pub few-rows : length h.R ≤ s + 32
  pub few-columns : length h.C ≤ s + 32
  pub columns-order : h.C ≡ take s h.C ++ rest (take s h.C) (length h.C)

pub record RemainingReady (p s : ℕ) (A : Compressed) (h : Storage) (from : Progress) : Type 0 where
  pub ready : RestReady p s A h from
  pub narrow : length h.work ≤ 2048
  pub columns-inside : s ≤ length h.C
  pub columns-order : length h.R ≤ s + 32 → length h.work ≤ s + 32 → h.C ≡ take s h.C ++ rest (take s h.C) (length h.C)

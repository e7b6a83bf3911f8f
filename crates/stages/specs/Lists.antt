-- The lists that the stages work in.
--   Largest A         starts, columns and values of the largest lengths
--   SetLists h        lists for a set, of the largest lengths
--   StageLists A h    lists for a plan and a set, of the largest lengths, and a working row
--   OwnedLists ..     the same with a list for the owners
--   Held r A          the lists have the plan that a reading says they have
use Rattle.std.specs.Prelude.{ℕ, ◌+◌, ◌≤◌, ◌≡◌, List, length}
use Rattle.sparse.specs.Matrix.{Compressed}
use Rattle.sparse.specs.Set.{Storage}
use Rattle.limits.specs.Limits.{starts_length, largest_size, largest_entries, work_length}
use Rattle.text_plan.specs.Call.{Reading}
use Rattle.text_owners.specs.Call.{owners_length}

pub record Largest (A : Compressed) : Type 0 where
  pub starts-length : length A.starts ≡ starts_length
  pub columns-length : length A.cols ≡ largest_entries
  pub values_length : length A.vals ≡ largest_entries

pub record SetLists (h : Storage) : Type 0 where
  pub R-length : length h.R ≡ largest_size
  pub C-length : length h.C ≡ largest_size
  pub L-lists : Largest h.L
  pub U-lists : Largest h.U

pub record StageLists (A : Compressed) (h : Storage) : Type 0 where
  pub plan : Largest A
  pub set : SetLists h
  pub work-length : length h.work ≡ work_length

pub record OwnedLists (A : Compressed) (ow : List ℕ) (h : Storage) : Type 0 where
  pub lists : StageLists A h
  pub owners-length : length ow ≡ owners_length

pub record Held (r : Reading) (A : Compressed) : Type 0 where
  pub rows : r.n + 1 ≤ length A.starts
  pub columns-fit : r.count ≤ length A.cols
  pub values-fit : r.count ≤ length A.vals

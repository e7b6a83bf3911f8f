-- What checking and making start from.
--   CheckLists A w       lists for a plan, of the largest lengths, and a working row
--   StagedFits s A h     what stands in the lists fits them, where there is anything
use Rattle.std.specs.Prelude.{◌≡◌, ℕ, List, length}
use Rattle.refusals.specs.Outcome.{Passed}
use Rattle.sparse.specs.Matrix.{Compressed}
use Rattle.sparse.specs.Set.{Storage}
use Rattle.limits.specs.Limits.{work_length}
use Rattle.stages.specs.Results.{Stages}
use Rattle.stages.specs.Lists.{Largest}
use Rattle.stages.specs.Staged.{Fits}

pub record CheckLists (A : Compressed) (w : List ℕ) : Type 0 where
  pub plan : Largest A
  pub work-length : length w ≡ work_length

pub record StagedFits (s : Stages) (A : Compressed) (h : Storage) : Type 0 where
  pub fits : s.reading.outcome ≡ Passed → Fits s A h

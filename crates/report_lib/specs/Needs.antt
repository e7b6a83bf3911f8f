-- What printing the stages starts from: A are the lists of the plan, ow are the owners, h the lists of the set, `marks` the list of open columns, `out` the
-- buffer.
--   HeldReady s A ow h marks out            once reading and factoring passed
--   ReportStagedReady s A ow h marks out    whatever the stages came to
use Rattle.std.specs.Prelude.{ℕ, ◌≤◌, ◌≡◌, List, length}
use Rattle.lists.specs.Filled.{zeros}
use Rattle.refusals.specs.Refusals.{detail_of}
use Rattle.refusals.specs.Outcome.{Passed}
use Rattle.sparse.specs.Matrix.{Compressed}
use Rattle.sparse.specs.Set.{Storage}
use Rattle.limits.specs.Limits.{largest_size, work_length, print_room}
use Rattle.stages.specs.Results.{Stages}
use Rattle.stages.specs.Staged.{Fits}

pub record HeldReady (s : Stages) (A : Compressed) (ow : List ℕ) (h : Storage) (marks out : List ℕ) : Type 0 where
  pub fits : Fits s A h
  pub owners-length : length ow ≡ s.reading.m
  pub columns-small : s.reading.m ≤ largest_size
  pub marks-length : length marks ≡ s.reading.m
  pub room : print_room ≤ length out
  pub work-length : length h.work ≡ work_length

pub record ReportStagedReady (s : Stages) (A : Compressed) (ow : List ℕ) (h : Storage) (marks out : List ℕ) : Type 0 where
  pub fits : s.reading.outcome ≡ Passed → Fits s A h
  pub columns-small : s.reading.outcome ≡ Passed → s.reading.m ≤ largest_size
  pub detail-small : s.reading.outcome ≡ Passed → detail_of s.factored.outcome ≤ largest_size
  pub owners-length : length ow ≡ largest_size
  pub marks-length : length marks ≡ largest_size
  pub room : print_room ≤ length out
  pub work-length : length h.work ≡ work_length
  pub clear : h.work ≡ zeros (length h.work)

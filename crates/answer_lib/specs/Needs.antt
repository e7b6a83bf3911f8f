-- What answering starts from.
--   StagedReady s A h      what the stages left: what stands in the lists fits them, where there is anything, and the working row is all zero
--   CertifiedReady cert w  a certificate with bytes, and a working row
use Rattle.std.specs.Prelude.{ℕ, ◌<◌, ◌≡◌, List, length}
use Rattle.lists.specs.Filled.{zeros}
use Rattle.refusals.specs.Outcome.{Passed}
use Rattle.sparse.specs.Matrix.{Compressed}
use Rattle.sparse.specs.Set.{Storage}
use Rattle.limits.specs.Limits.{work_length}
use Rattle.stages.specs.Staged.{Fits}
use Rattle.stages.specs.Results.{Stages}

pub record StagedReady (s : Stages) (A : Compressed) (h : Storage) : Type 0 where
  pub fits : s.reading.outcome ≡ Passed → Fits s A h
  pub clear : h.work ≡ zeros (length h.work)

pub record CertifiedReady (cert w : List ℕ) : Type 0 where
  pub bytes : 0 < length cert
  pub work-length : length w ≡ work_length

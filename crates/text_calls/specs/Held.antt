-- What is made of the stages, in terms of the lists that they left: A are those of the plan, h those of the set.
--   held_certificate s h         the certificate of the set that stands in the lists
--   written_of s A h room        writing it into a buffer with so much room
--   staged_outcome s A h room    what comes of any stages: the first refusal, or the above
--   Puts o bytes r b₀ b         the outcome r is o, and the buffer holds the bytes, zero past their end; all zero where o is a refusal
use Rattle.std.specs.Prelude.{ℕ, ◌≡◌, List, length}
use Rattle.lists.specs.Filled.{filled}
use Rattle.refusals.specs.Refusals.{◌▷◌}
use Rattle.refusals.specs.Outcome.{Outcome}
use Rattle.sparse.specs.Matrix.{Compressed}
use Rattle.sparse.specs.Set.{Storage}
use Rattle.certificate.specs.Layout.{certificate_of}
use Rattle.call_write.specs.Call.{write_outcome, bytes_given}
use Rattle.stages.specs.Results.{Stages}
use Rattle.text_plan.specs.Held.{held_plan}
use Rattle.stages.specs.Staged.{held_set}

abbrev pub held_certificate : Stages → Storage → List ℕ
held_certificate s h = let r = s.reading in certificate_of r.p r.n r.m (held_set s h)

abbrev pub written_of : Stages → Compressed → Storage → (room : ℕ) → Outcome
written_of s A h room = let r = s.reading in write_outcome r.p r.n r.m (held_plan r A) (held_set s h) (length h.work) room

unfoldable pub staged_outcome : Stages → Compressed → Storage → (room : ℕ) → Outcome
staged_outcome s A h room = s.reading.outcome ▷ s.factored.outcome ▷ written_of s A h room

pub record Puts (o : Outcome) (bytes : List ℕ) (r : Outcome) (b₀ b : List ℕ) : Type 0 where
  pub outcome : r ≡ o
  pub buffer : b ≡ filled (length b₀) (bytes_given o bytes)

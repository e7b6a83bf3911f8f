-- The answer from what a reading, or the stages, left in lists: A are those of the plan, h those of the set.
--   answer_held_of s A h y a b w        the answer from the plan and the set that stand in lists
--   answer_staged_of s A h y a b w      what comes of any stages: their refusal, else that answer
--   certified_held_of r A cert y a b w  what comes of a reading: its refusal, else the answer from a certificate
use Rattle.std.specs.Prelude.{ℕ, List}
use Rattle.sparse.specs.Matrix.{Compressed}
use Rattle.sparse.specs.Set.{Storage}
use Rattle.text_plan.specs.Held.{held_plan}
use Rattle.text_plan.specs.Call.{Reading}
use Rattle.call_answer.specs.Calls.{Given, answer_factors_of, answer_certificate_of}
use Rattle.call_owned.specs.Owned.{given_after}
use Rattle.stages.specs.Staged.{held_set, stages_outcome}
use Rattle.stages.specs.Results.{Stages}

abbrev pub answer_held_of : Stages → Compressed → Storage → (y : List ℕ) → (a b w : ℕ) → Given
answer_held_of s A h y a b w = let r = s.reading in answer_factors_of r.p r.n r.m (held_plan r A) (held_set s h) y a b w

unfoldable pub answer_staged_of : Stages → Compressed → Storage → (y : List ℕ) → (a b w : ℕ) → Given
answer_staged_of s A h y a b w = given_after (stages_outcome s) (answer_held_of s A h y a b w)

unfoldable pub certified_held_of : Reading → Compressed → (cert y : List ℕ) → (a b w : ℕ) → Given
certified_held_of r A cert y a b w = given_after r.outcome (answer_certificate_of r.p r.n r.m (held_plan r A) cert y a b w)

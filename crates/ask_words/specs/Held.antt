-- The answer to slot values from what the stages left in lists: A are those of the plan, l those of the set.
--   solution_line_of r s w      the line of an answer with its lists
--   held_slots s A l h         the answer from the plan and the set that stand in lists
--   SlotsHeld g r n m ..      what it leaves: with the first m values of s and n of w, the answer's line is that of g
--   staged_words s A l h       the line of what the stages came to: of a refusal by reading or by factoring, else of the answer
use Rattle.std.specs.Prelude.{ℕ, ◌≤◌, ◌≡◌, true, false, List, length, take}
use Rattle.lists.specs.Filled.{zeros}
use Rattle.refusals.specs.Table.{question_too_large}
use Rattle.sparse.specs.Matrix.{Compressed}
use Rattle.sparse.specs.Set.{Storage}
use Rattle.limits.specs.Limits.{work_length, starts_length}
use Rattle.call_slots.specs.Calls.{SlotsGiven, solution_detail, slots_factors_of}
use Rattle.call_slots.specs.Solution.{Solution}
use Rattle.print_text.specs.Answer.{slots_line}
use Rattle.print_text.specs.Report.{refusal_text}
use Rattle.print_text.specs.Printed.{detail_from_one}
use Rattle.text_plan.specs.Held.{held_plan}
use Rattle.stages.specs.Staged.{held_set}
use Rattle.stages.specs.Results.{Stages}
use Rattle.ask_lib.specs.Held.{staged_then}
use Rattle.ask_words.specs.Solving.{solution_line}

abbrev pub solution_line_of : Solution → (s w : List ℕ) → List ℕ
solution_line_of (Solution.Refused number detail) s w = refusal_text number (detail_from_one question_too_large number detail)
solution_line_of Solution.Solved s w = slots_line true s
solution_line_of Solution.Contradiction s w = slots_line false w

abbrev pub held_slots : Stages → Compressed → Storage → List ℕ → SlotsGiven
held_slots s A l h = let r = s.reading in slots_factors_of r.p r.n r.m r.m (held_plan r A) (held_set s l) h r.m r.n work_length

pub record SlotsHeld (g : SlotsGiven) (r : Solution) (n m : ℕ) (s w v₀ v : List ℕ) : Type 0 where
  pub line-is : solution_line_of r (take m s) (take n w) ≡ solution_line g
  pub detail-small : solution_detail r ≤ starts_length
  pub cleared : v ≡ zeros (length v₀)

abbrev pub staged_words : Stages → Compressed → Storage → List ℕ → List ℕ
staged_words s A l h = staged_then s (solution_line (held_slots s A l h))

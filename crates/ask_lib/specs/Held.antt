-- The answer from what the stages left in lists: A are those of the plan, h those of the set.
--   answer_line_of a x z       the line of an answer with its lists
--   held_answer s A h y       the answer from the plan and the set that stand in lists
--   AnswerHeld g a n m ..    what it leaves: with the first n values of x and m of z, the answer's line is that of g
--   stages_refusal s          the refusal that the stages ended with, as it is printed
--   staged_then s line        what is printed of the stages: the line of a refusal by reading or by factoring, else the given one
--   staged_line s A h y       the line of what the stages came to: of a refusal, else of the answer
use Rattle.std.specs.Prelude.{ℕ, ◌≤◌, ◌≡◌, true, false, List, length, take}
use Rattle.lists.specs.Filled.{zeros}
use Rattle.refusals.specs.Table.{storage_too_short, question_too_large}
use Rattle.refusals.specs.Refusals.{◌▷◌}
use Rattle.refusals.specs.Outcome.{Outcome}
use Rattle.sparse.specs.Matrix.{Compressed}
use Rattle.sparse.specs.Set.{Storage}
use Rattle.limits.specs.Limits.{work_length, starts_length}
use Rattle.call_answer.specs.Calls.{Given, answer_detail, answer_factors_of}
use Rattle.call_answer.specs.Answer.{Answer}
use Rattle.print_text.specs.Answer.{answer_line}
use Rattle.print_text.specs.Report.{refusal_text}
use Rattle.print_text.specs.Printed.{detail_from_one, counted_from_one, printed}
use Rattle.text_plan.specs.Held.{held_plan}
use Rattle.stages.specs.Staged.{held_set}
use Rattle.stages.specs.Results.{Stages}
use Rattle.ask_lib.specs.Asking.{given_line}

-- ---- the line

abbrev pub answer_line_of : Answer → List ℕ → List ℕ → List ℕ
answer_line_of (Answer.Refused number detail) x z = refusal_text number (detail_from_one question_too_large number detail)
answer_line_of Answer.Open x z = answer_line true x
answer_line_of Answer.Closed x z = answer_line false z

-- ---- the answer

abbrev pub held_answer : Stages → Compressed → Storage → List ℕ → Given
held_answer s A h y = let r = s.reading in answer_factors_of r.p r.n r.m (held_plan r A) (held_set s h) y r.n r.m work_length

pub record AnswerHeld (g : Given) (a : Answer) (n m : ℕ) (x z w₀ w : List ℕ) : Type 0 where
  pub line-is : answer_line_of a (take n x) (take m z) ≡ given_line g
  pub detail-small : answer_detail a ≤ starts_length
  pub cleared : w ≡ zeros (length w₀)

-- ---- what the stages came to

unfoldable pub stages_refusal : Stages → Outcome
stages_refusal s = s.reading.outcome ▷ counted_from_one storage_too_short s.factored.outcome

unfoldable pub staged_then : Stages → List ℕ → List ℕ
staged_then s line =
    printed s.reading.outcome
    (printed (counted_from_one storage_too_short s.factored.outcome)
    line)

abbrev pub staged_line : Stages → Compressed → Storage → List ℕ → List ℕ
staged_line s A h y = staged_then s (given_line (held_answer s A h y))

-- `question_ok` meets its contract: every value before j is below p.
use Rattle.std.proofs.Common.{ℕ, ◌<◌, get_or}
use Rattle.answer_question.proofs.question.question_ok.Given as goal

abbrev pub invariant-loop-j : goal.invariant-loop-j
invariant-loop-j l = (i : ℕ) → i < l.j → get_or l.y i 0 < l.p

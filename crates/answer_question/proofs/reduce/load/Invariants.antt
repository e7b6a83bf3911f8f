-- `load` meets its contract; the loop keeps that the first cells are loaded. Assumes nothing.
use Rattle.std.proofs.Common.{ℕ, ◌≡◌, ◌<◌, get_or}
use Rattle.answer_question.proofs.reduce.load.Given as goal

abbrev pub invariant-loop-i : goal.invariant-loop-i
invariant-loop-i l = (k : ℕ) → k < l.i → get_or l.work k 0 ≡ get_or l.list k 0

-- `question` meets its contract; no more values are kept than there is room for. Assumes nothing.
use Rattle.std.proofs.Common.{length, ◌≤◌}
use Rattle.ask.proofs.arguments.question.Given as goal

abbrev pub invariant-loop-i : goal.invariant-loop-i
invariant-loop-i g l = l.count ≤ length l.y

-- `put_digits` meets its contract; the loop keeps that the digits of what is left of the number, then the bytes written, are the digits of the number. Assumes nothing.
use Rattle.print_text.proofs.Ending.{Ending}
use Rattle.print_text.proofs.number.put_digits.Given as goal

abbrev pub invariant-loop-high : goal.invariant-loop-high
invariant-loop-high l = Ending l.x l.bytes l.k l.high

abbrev pub decreases-loop-high : goal.decreases-loop-high
decreases-loop-high l = l.high

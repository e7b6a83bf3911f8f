-- `choose_values` meets its contract; the loop's invariant is `Choosing`: the pivot columns have 0, and the number is below 2 ^ 31. Assumes nothing.
use Rattle.answer_open.proofs.WitnessLaws.{Choosing}
use Rattle.answer_open.proofs.choose.choose_values.Given as goal

abbrev pub invariant-loop-i : goal.invariant-loop-i
invariant-loop-i l = Choosing l.p l.r l.co l.values l.x l.i

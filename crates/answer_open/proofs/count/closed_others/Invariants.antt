-- `closed_others` meets its contract; the loop's invariant is `Counting`: the first t columns are counted. Assumes nothing.
use Rattle.answer_open.proofs.CountLaws.{Counting}
use Rattle.answer_open.proofs.count.closed_others.Given as goal

abbrev pub invariant-loop-t : goal.invariant-loop-t
invariant-loop-t l = Counting l.d l.marks l.cols l.found l.t

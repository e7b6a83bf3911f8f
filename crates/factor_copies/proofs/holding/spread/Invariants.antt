-- `spread` meets its contract; the loop's invariant is `SpreadTo`. Assumes nothing.
use lib.ListN.{length}
use Rattle.factor_copies.proofs.SpreadLaws.{SpreadTo}
use Rattle.factor_copies.proofs.holding.spread.Given as goal

abbrev pub invariant-loop-column : goal.invariant-loop-column
invariant-loop-column l = SpreadTo l.low l.at l.cols l.vals l.initial.copies l.copies (length l.yielded)

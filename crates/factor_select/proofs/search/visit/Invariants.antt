-- `visit` meets its contract; the loop's invariant: the columns passed were visited. Assumes nothing.
use lib.ListN.{take}
use Rattle.factor_select.specs.Search.{Visited}
use Rattle.factor_select.proofs.search.visit.Given as goal

abbrev pub invariant-loop-j : goal.invariant-loop-j
invariant-loop-j l = Visited l.own (take l.j-index l.row) l.work l.initial.stamps l.initial.queue l.mark l.from l.stamps l.queue l.tail

-- `append_unmarked` meets its contract; the loop's invariant: the numbers passed that are not marked are written. Assumes nothing.
use lib.ListN.{take}
use Rattle.lists.specs.Rest.{rest}
use Rattle.lists.specs.Stored.{Stored}
use Rattle.factor_order.proofs.complete.append_unmarked.Given as goal

abbrev pub invariant-loop-x : goal.invariant-loop-x
invariant-loop-x l = Stored l.initial.list l.list l.k l.at (rest (take l.k l.initial.list) l.x)

-- `add_entries` meets its contract; the loop's invariant is `AddingRow`.
use Rattle.sparse.proofs.AddLaws.{AddingRow}
use Rattle.sparse.proofs.growing.add_entries.Given as goal

abbrev pub invariant-loop-t : goal.invariant-loop-t
invariant-loop-t g l = AddingRow l.d (g.N.Numbers.numbers l.cols) (g.N.Numbers.numbers l.vals) l.initial.work l.work l.t

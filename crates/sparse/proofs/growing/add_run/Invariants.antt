-- `add_run` meets its contract; the loop's invariant is `Adding`.
use Rattle.sparse.proofs.RunLaws.{Adding}
use Rattle.sparse.proofs.growing.add_run.Given as goal

abbrev pub invariant-loop-t : goal.invariant-loop-t
invariant-loop-t g l = Adding l.d (g.N.Numbers.numbers l.vals) l.initial.work l.work l.t

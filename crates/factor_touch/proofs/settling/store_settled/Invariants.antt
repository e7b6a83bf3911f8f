-- `store_settled` meets its contract; the loop's invariant is `Storing`, the measure what is left. Assumes nothing.
use Prim.Native.Nat.{◌-◌}
use lib.ListN.{length}
use Rattle.sparse.proofs.DenseSteps.{Storing}
use Rattle.factor_touch.proofs.settling.store_settled.Given as goal

abbrev pub invariant-loop-j : goal.invariant-loop-j
invariant-loop-j l = Storing l.q.p l.c l.start l.initial.work l.initial.cols l.initial.vals l.work l.cols l.vals l.at l.j

abbrev pub decreases-loop-j : goal.decreases-loop-j
decreases-loop-j l = length l.initial.work - l.j

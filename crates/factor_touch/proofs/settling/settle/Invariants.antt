-- `settle` meets its contract; the loop's invariant is `Settling`, the measure what is left. Assumes nothing.
use Prim.Native.Nat.{◌-◌}
use lib.ListN.{length}
use Rattle.factor_touch.proofs.SettleSteps.{Settling}
use Rattle.factor_touch.proofs.settling.settle.Given as goal

abbrev pub invariant-loop-j : goal.invariant-loop-j
invariant-loop-j l = Settling l.q.p l.initial.work l.work l.found.count l.found.low l.j

abbrev pub decreases-loop-j : goal.decreases-loop-j
decreases-loop-j l = length l.initial.work - l.j

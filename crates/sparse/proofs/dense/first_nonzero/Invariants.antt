-- `first_nonzero` meets its contract; every cell passed stands for 0, the measure is what is left. Assumes nothing.
use Prim.Native.Nat.{◌-◌, ◌≤◌}
use lib.ListN.{length}
use Rattle.sparse.proofs.DenseSteps.{StandForZero}
use Rattle.sparse.proofs.dense.first_nonzero.Given as goal

abbrev pub invariant-loop-j : goal.invariant-loop-j
invariant-loop-j l = (l.j ≤ length l.work) × StandForZero l.q.p l.work l.j

abbrev pub decreases-loop-j : goal.decreases-loop-j
decreases-loop-j l = length l.work - l.j

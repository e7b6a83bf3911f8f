-- `next_nonzero` meets its contract; every cell passed is 0, the measure is what is left. Assumes nothing.
use Prim.Native.Nat.{◌-◌}
use lib.ListN.{length}
use Rattle.sparse.proofs.Scanning.{Passed}
use Rattle.sparse.proofs.scan.next_nonzero.Given as goal

abbrev pub invariant-loop-j : goal.invariant-loop-j
invariant-loop-j l = Passed l.row l.from l.j

abbrev pub decreases-loop-j : goal.decreases-loop-j
decreases-loop-j l = length l.row - l.j

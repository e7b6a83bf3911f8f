-- `next_by_one` meets its contract; every cell passed is 0. Assumes nothing.
use Rattle.sparse.proofs.Scanning.{Passed}
use Rattle.sparse.proofs.scan.next_by_one.Given as goal

abbrev pub invariant-loop-j : goal.invariant-loop-j
invariant-loop-j l = Passed l.row l.from l.j

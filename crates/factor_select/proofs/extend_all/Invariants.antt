-- `extend_all` meets its contract; the loop's invariant: the rows below i were taken. Assumes nothing.
use lib.ListN.{length}
use Rattle.sparse.specs.Matrix.{compressed}
use Rattle.factor_select.specs.Needs.{Extended}
use Rattle.factor_select.proofs.extend_all.Given as goal

abbrev pub invariant-loop-i : goal.invariant-loop-i
invariant-loop-i l = Extended (compressed l.starts l.cols l.vals) l.n (length l.initial.work) l.i l.work l.chosen l.stamps l.queue

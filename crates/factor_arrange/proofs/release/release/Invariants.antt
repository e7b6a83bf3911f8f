-- `release` meets its contract; the loop's invariant is `Releasing`: the first t columns of row k are passed. Assumes nothing.
use Rattle.sparse.specs.Matrix.{compressed}
use Rattle.factor_arrange.proofs.Releasing.{Releasing}
use Rattle.factor_arrange.proofs.release.release.Given as goal

abbrev pub invariant-loop-j : goal.invariant-loop-j
invariant-loop-j l = Releasing l.k (compressed l.starts l.cols l.vals) l.work l.waits l.initial.degrees l.initial.ready l.degrees l.ready l.low l.j-index

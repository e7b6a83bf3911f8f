-- `count` meets its contract; the loop's invariant is `CountedTo`: the rows below k are counted. Assumes nothing.
use Rattle.sparse.specs.Matrix.{compressed}
use Rattle.factor_arrange.proofs.Counting.{CountedTo}
use Rattle.factor_arrange.proofs.degrees.count.Given as goal

abbrev pub invariant-loop-k : goal.invariant-loop-k
invariant-loop-k l = CountedTo l.n (compressed l.starts l.cols l.vals) l.work l.chosen l.degrees l.k

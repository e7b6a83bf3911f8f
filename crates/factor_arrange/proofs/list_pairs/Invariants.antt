-- `list_pairs` meets its contract; the loop's invariant is `Listing`: `at` pairs are listed, and k is the lowest ready row. Assumes nothing.
use lib.ListN.{length}
use Rattle.sparse.specs.Matrix.{compressed}
use Rattle.factor_arrange.proofs.Listing.{Listing}
use Rattle.factor_arrange.proofs.list_pairs.Given as goal

abbrev pub invariant-loop-at : goal.invariant-loop-at
invariant-loop-at l = Listing l.p (length l.initial.ready) (compressed l.starts l.cols l.vals) l.work l.chosen l.waits l.degrees l.ready l.ro l.co l.at l.k

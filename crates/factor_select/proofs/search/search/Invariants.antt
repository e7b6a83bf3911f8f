-- `search` meets its contract; the loop's invariant is `Reaching` and the place of the lowest candidate that is left, the measure the columns that can
-- still leave the queue. Assumes nothing.
use Prim.Native.Nat.{◌-◌}
use lib.ListN.{length}
use Rattle.sparse.specs.Matrix.{compressed}
use Rattle.factor_select.specs.Search.{NextFit}
use Rattle.factor_select.proofs.Reaching.{Reaching}
use Rattle.factor_select.proofs.search.search.Given as goal

abbrev pub invariant-loop-t : goal.invariant-loop-t
invariant-loop-t l = Reaching (compressed l.starts l.cols l.vals) l.n l.i l.mark l.work l.initial.stamps l.stamps l.queue l.tail l.head × NextFit l.own l.work l.stamps l.mark 0 l.t

abbrev pub decreases-loop-t : goal.decreases-loop-t
decreases-loop-t l = length l.work - l.head

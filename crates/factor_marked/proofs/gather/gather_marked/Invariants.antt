-- `gather_marked` meets its contract; the loop's invariant is `MarkedGathering`, the measure what is left. Assumes nothing.
use Prim.Native.Nat.{◌-◌}
use lib.ListN.{length}
use Rattle.sparse.specs.Matrix.{compressed}
use Rattle.factor_marked.proofs.MarkedPivots.{MarkedGathering}
use Rattle.factor_marked.proofs.gather.gather_marked.Given as goal

abbrev pub invariant-loop-k : goal.invariant-loop-k
invariant-loop-k l = MarkedGathering l.q.p l.co (compressed l.us l.uc l.uv) l.l l.limit l.place l.initial.work l.initial.lc l.initial.lv l.touched l.pending l.work l.lc l.lv l.full l.next l.k

abbrev pub decreases-loop-k : goal.decreases-loop-k
decreases-loop-k l = length l.co - l.k

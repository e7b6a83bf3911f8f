-- `next_fit` meets its contract; the loop's invariant: the columns passed are used or stamped. Assumes nothing.
use Prim.Native.Nat.{ℕ, ◌≤◌, ◌<◌}
use lib.ListN.{get_or}
use Rattle.factor_select.specs.Search.{Passed}
use Rattle.factor_select.proofs.fit.next_fit.Given as goal

abbrev pub invariant-loop-t : goal.invariant-loop-t
invariant-loop-t l = (k : ℕ) → k < l.t → l.from ≤ k → Passed l.work l.stamps l.mark (get_or l.row k 0)

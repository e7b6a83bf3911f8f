-- `choose` meets its contract; the loop's invariant: the cells name the rows chosen among those passed. Assumes nothing.
use mathlib.Core.Path.{◌≡◌}
use lib.ListN.{length}
use Rattle.sparse.specs.Matrix.{compressed}
use Rattle.factor_order.specs.Search.{Chosen}
use Rattle.factor_order.proofs.pairs.choose.Given as goal

abbrev pub invariant-loop-i : goal.invariant-loop-i
invariant-loop-i l = (length l.work ≡ length l.initial.work) × Chosen (compressed l.starts l.cols l.vals) l.i l.work

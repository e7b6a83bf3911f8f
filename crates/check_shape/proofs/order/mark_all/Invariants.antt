use mathlib.Core.Path.{◌≡◌}
use lib.ListN.{length, drop}
use Rattle.pluq.specs.Order.{permutation}
use Rattle.check_shape.proofs.Marks.{marked}
use Rattle.check_shape.proofs.order.mark_all.Given as goal

abbrev pub invariant-loop-i : goal.invariant-loop-i
invariant-loop-i l = (length l.mark ≡ length l.initial.mark) × (marked l.n l.mark (drop l.i l.list) ≡ permutation l.list)

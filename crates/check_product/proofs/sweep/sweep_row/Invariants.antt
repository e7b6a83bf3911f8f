use mathlib.Core.Path.{◌≡◌}
use Rattle.check_product.proofs.SweepLaws.{Sweeping}
use Rattle.check_product.proofs.sweep.sweep_row.Given as goal

abbrev pub invariant-loop-t : goal.invariant-loop-t
invariant-loop-t l = Sweeping l.q.p l.cols (λ c j. c ≡ j) l.zero l.initial.work l.work l.so_far l.t

use mathlib.Core.Path.{◌≡◌}
use lib.Seq.{slice}
use Rattle.check_shape.specs.Needs.{clean}
use Rattle.check_shape.proofs.upper.unmarked.Given as goal

abbrev pub invariant-loop-i : goal.invariant-loop-i
invariant-loop-i l = clean l.work (slice l.i l.e l.cols) ≡ clean l.work (slice l.a l.e l.cols)

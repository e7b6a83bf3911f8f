-- `rises` meets its contract.
use Prim.Native.Nat.{◌≤◌}
use mathlib.Core.Path.{◌≡◌}
use lib.Seq.{slice}
use Rattle.sparse.specs.Form.{rises_from}
use Rattle.sparse.proofs.form.rises.Given as goal

abbrev pub invariant-loop-i : goal.invariant-loop-i
invariant-loop-i l = (l.i ≤ l.e) × (rises_from l.width l.low (slice l.i l.e l.cols) ≡ rises_from l.width 0 (slice l.a l.e l.cols))

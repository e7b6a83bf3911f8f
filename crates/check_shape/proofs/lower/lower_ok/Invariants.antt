use Prim.Native.Nat.{ℕ, ◌<◌}
use mathlib.Core.Path.{◌≡◌}
use mathlib.Core.Bool.{true}
use Rattle.sparse.specs.Matrix.{matrix}
use Rattle.pluq.specs.Shape.{lower_row}
use Rattle.check_shape.proofs.lower.lower_ok.Given as goal

abbrev pub invariant-loop-k : goal.invariant-loop-k
invariant-loop-k l = (i : ℕ) → i < l.k → lower_row l.r (matrix l.l i) i ≡ true

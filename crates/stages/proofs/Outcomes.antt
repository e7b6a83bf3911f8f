-- An outcome that is a refusal did not pass.
use mathlib.Core.Path.{◌≡◌}
use Prim.Native.Nat.{ℕ}
use native.Mathlib.Omega.{arith}
use Rattle.refusals.specs.Outcome.{Outcome}
use Rattle.refusals.specs.Outcome.{Passed, Refused}

pub not-passed : {o : Outcome} {k d : ℕ} → o ≡ Refused k d → ¬ (o ≡ Passed)
not-passed e q = let z : ◌≡◌ {A = ℕ} 0 1 = cc in omega arith

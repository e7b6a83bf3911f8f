-- The contract of a check from the equation of its outcome: the number and the detail follow.
use mathlib.Core.Path.{◌≡◌, ap}
use mathlib.Core.List.{List}
use Prim.Native.Nat.{ℕ}
use lib.ListN.{length}
use Rattle.lists.specs.Filled.{zeros}
use Rattle.refusals.specs.Refusals.{number_of, detail_of}
use Rattle.refusals.specs.Outcome.{Outcome}
use Rattle.call_check.specs.Calls.{Checks}

pub checks : (o r : Outcome) (w₀ w : List ℕ) → r ≡ o → w ≡ zeros (length w₀) → Checks o r w₀ w
checks o r w₀ w e c = record { outcome = e; number = ap number_of e; detail = ap detail_of e; cleared = c }

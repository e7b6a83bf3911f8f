-- `digits` meets its contract. The invariant: the whole field says what `v` and the digits that are left say. Assumes nothing.
use mathlib.Core.Path.{◌≡◌}
use Prim.Native.Nat.{◌<◌, ◌^◌}
use lib.ListN.{drop}
use Rattle.text_fields.specs.Number.{digits_from}
use Rattle.text_fields.proofs.numbers.digits.Given as goal

abbrev pub invariant-loop-b : goal.invariant-loop-b
invariant-loop-b l = (l.v < 10 ^ l.b-index) × (digits_from 0 l.field ≡ digits_from l.v (drop l.b-index l.field))

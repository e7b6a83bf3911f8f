-- `piece_end` meets its contract. The invariant: the first piece from `at` is what the loop passed and the first piece from `e`. Assumes nothing.
use mathlib.Core.Path.{◌≡◌}
use Prim.Native.Nat.{◌≤◌, ◌+◌, ◌-◌}
use lib.ListN.{length}
use Rattle.text_fields.specs.Scan.{size_from}
use Rattle.text_fields.proofs.pieces.piece_end.Given as goal

abbrev pub invariant-loop-e : goal.invariant-loop-e
invariant-loop-e l = (l.e ≤ length l.text) × (l.at + size_from l.separator l.text l.at ≡ l.e + size_from l.separator l.text l.e)

abbrev pub decreases-loop-e : goal.decreases-loop-e
decreases-loop-e l = length l.text - l.e

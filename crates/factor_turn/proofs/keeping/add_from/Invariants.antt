-- `add_from` meets its contract: l is added to number after number. Assumes nothing.
use Prim.Native.Nat.{◌+◌}
use mathlib.Core.Path.{◌≡◌}
use mathlib.Core.List.{◌++◌, map}
use lib.ListN.{take, drop}
use Rattle.factor_turn.proofs.keeping.add_from.Given as goal

abbrev pub invariant-loop-x : goal.invariant-loop-x
invariant-loop-x l = l.x-items ≡ map (λ x. x + l.l) (take l.x-index l.initial.x-items) ++ drop l.x-index l.initial.x-items

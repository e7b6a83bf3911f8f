-- `add_from` meets its contract; l is added to number after number. Assumes nothing.
use Prim.Native.Nat.{◌+◌}
use native.Mathlib.Omega.{arith}
use lib.ListN.{get_or}
use borrow.Author.Rules.{rules}
use Rattle.std.proofs.lemmas.List.Edits.{map_over_more}
use Rattle.factor_turn.proofs.keeping.add_from.Goals as goal

pub loop-x-preserved : goal.loop-x-preserved
loop-x-preserved c = map_over_more (λ x. x + c.args.l) _ c.loop-x.x-items c.loop-x.x-index (get_or c.loop-x.x-items c.loop-x.x-index 0) (omega arith) c.loop-x.invariant (search rules)

-- `complete` meets its contract: the marks of the given numbers are what the appending needs. Assumes nothing.
use Rattle.factor_order.proofs.Completing.{append-ready}
use Rattle.factor_order.proofs.complete.complete.Goals as goal

pub append_unmarked-requires : goal.append_unmarked-requires
append_unmarked-requires c = append-ready _ _ _ _ c.requires c.mark.ensures

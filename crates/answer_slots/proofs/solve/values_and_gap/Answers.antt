-- `values_and_gap` meets its contract: the values stand in the first cells of w, and none of their slots has a gap. Assumes nothing.
use Rattle.answer_slots.proofs.FoundValues.{forward-ready, gaps-ready}
use Rattle.answer_slots.proofs.solve.values_and_gap.Goals as goal

pub forward-requires : goal.forward-requires
forward-requires c = forward-ready c.args.q.p c.args.r _ _ _ _ _ c.requires c.clear.ensures

pub lowest_gap-requires : goal.lowest_gap-requires
lowest_gap-requires c = gaps-ready c.args.q.p c.args.r _ _ _ _ _ c.requires c.clear.ensures _ c.forward.ensures

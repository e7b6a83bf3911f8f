-- `order_pairs` meets its contract: all selected pairs wait, their degrees are counted and the ready rows marked, and they are listed. Assumes nothing.
use Rattle.factor_arrange.proofs.Listing.{order-mark, order-list, order-arranged}
use Rattle.factor_arrange.proofs.order_pairs.Goals as goal

pub mark_ready-requires : goal.mark_ready-requires
mark_ready-requires c = order-mark _ _ _ _ _ _ _ _ _ _ c.requires _ c.count.auto.degrees

pub list_pairs-requires : goal.list_pairs-requires
list_pairs-requires c = order-list _ _ _ _ _ _ _ _ _ _ c.requires _ c.count.auto.degrees _ c.mark_ready.auto.ready _ c.copy_from_slice.ensures.after c.count.ensures c.mark_ready.ensures

pub returns : goal.returns
returns c = order-arranged _ _ _ _ _ _ _ _ _ _ c.requires c.mark_ready.new.ready c.mark_ready.auto.ready _ _ _ c.list_pairs.ensures

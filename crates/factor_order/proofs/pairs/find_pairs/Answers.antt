-- `find_pairs` meets its contract: the cells name document 01's pivots, the selection adds to them, and the arrangement puts them in order. Assumes nothing.
use mathlib.Core.Path.{◌≡◌, ap, ◌∙◌}
use lib.ListN.{length}
use Rattle.lists.proofs.Filled.{length-zeros}
use Rattle.factor_order.proofs.Selecting.{name-ready}
use Rattle.factor_order.proofs.pairs.find_pairs.Goals as goal

pub select-requires : goal.select-requires
select-requires c =
    let wide : length c.choose.new.work ≡ length c.args.co.now = c.choose.auto.work ∙ ap length c.requires.lent.w-clear ∙ length-zeros (length c.args.co.now) in
    name-ready _ _ _ _ _ _ _ c.requires.lent _ (wide) _ c.requires.v-clear c.choose.ensures

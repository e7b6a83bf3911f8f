-- `arrange` meets its contract: the local lists are cleared, and have a cell for each row. Assumes nothing.
use mathlib.Core.Path.{sym}
use Rattle.factor_names.proofs.LocalLists.{part-clear, part-long}
use Rattle.factor_arrange.proofs.arrange.Goals as goal

pub order_pairs-requires : goal.order_pairs-requires
order_pairs-requires c =
    let h = c.requires.sized.n-small in
    record { pairs = c.requires; waits-long = sym (part-long _ 2048 h); degrees-clear = part-clear _ 2048 h; ready-clear = part-clear _ 2048 h }

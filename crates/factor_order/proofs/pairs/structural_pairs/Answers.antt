-- `structural_pairs` meets its contract: the local list is all zero and has a cell for each row. Assumes nothing.
use Rattle.factor_names.proofs.LocalLists.{part-clear}
use Rattle.factor_order.proofs.pairs.structural_pairs.Goals as goal

pub find_pairs-requires : goal.find_pairs-requires
find_pairs-requires c = record { lent = c.requires; v-clear = part-clear _ 2048 c.requires.n-small }

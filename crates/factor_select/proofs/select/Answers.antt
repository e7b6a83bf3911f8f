-- `select` meets its contract: the rows of document 01's pivots are named, then all rows are taken. Assumes nothing.
use Rattle.factor_names.proofs.LocalLists.{part-clear}
use Rattle.factor_select.proofs.Taking.{select-ready}
use Rattle.factor_select.proofs.select.Goals as goal

pub extend_all-requires : goal.extend_all-requires
extend_all-requires c =
    let clear = part-clear _ 2048 c.requires.sized.m-small in
    select-ready _ _ _ _ _ _ _ _ c.requires c.name_rows.auto.chosen c.name_rows.ensures clear clear

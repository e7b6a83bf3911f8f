-- `open_columns` meets its contract: the part of the working row that is lent comes back all zero. Assumes nothing.
use Rattle.answer_open.proofs.AllColumns.{columns-ready, columns-done}
use Rattle.answer_open.proofs.pivots.open_columns.Goals as goal

pub open_pivots-requires : goal.open_pivots-requires
open_pivots-requires c = columns-ready _ _ _ _ _ _ c.requires

pub returns : goal.returns
returns c = columns-done _ _ _ _ _ _ c.requires _ _ c.open_pivots.auto.work c.open_pivots.ensures

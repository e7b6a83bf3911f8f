-- `gather_row` meets its contract: the parts of the lists are the lists cut to their lengths. Assumes nothing.
use Rattle.factor_row.proofs.GatheredRows.{cut-ready, cut-done}
use Rattle.factor_row.proofs.gathering.gather_row.Goals as goal

pub gather_cut-requires : goal.gather_cut-requires
gather_cut-requires c = cut-ready _ _ _ _ _ _ _ _ _ _ _ _ _ _ c.requires _ _ _ _ c.part.ensures c.part-2.ensures c.part-3.ensures c.part-4.ensures

pub returns : goal.returns
returns c = cut-done _ _ _ _ _ _ _ _ _ _ _ _ _ _ c.requires _ _ _ _ c.part.ensures c.part-2.ensures c.part-3.ensures c.part-4.ensures _ _ _ _ c.gather_cut.ensures

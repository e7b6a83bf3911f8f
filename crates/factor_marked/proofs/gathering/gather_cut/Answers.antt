-- `gather_cut` meets its contract: the row is loaded and marked, and what is gathered of it by `gather_marked` is the row of L. Assumes nothing.
use mathlib.Core.Path.{refl}
use Rattle.factor_marked.proofs.MarkedRows.{loaded-noted, loaded-ready, loaded-done}
use Rattle.factor_marked.proofs.gathering.gather_cut.Goals as goal

pub note_stored_row-full-requires : goal.note_stored_row-full-requires
note_stored_row-full-requires c = loaded-noted _ _ _ _ _ _ _ _ _ _ _ _ c.requires _ refl

pub gather_marked-requires : goal.gather_marked-requires
gather_marked-requires c = loaded-ready _ _ _ _ _ _ _ _ _ _ _ _ c.requires _ refl _ c.load_row.ensures _ refl _ _ _ c.note_stored_row-full.ensures

pub returns : goal.returns
returns c = loaded-done _ _ _ _ _ _ _ _ _ _ _ _ c.requires _ c.load_row.ensures _ refl _ _ _ _ _ c.gather_marked.ensures

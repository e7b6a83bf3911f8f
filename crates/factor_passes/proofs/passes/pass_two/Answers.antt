-- `pass_two` meets its contract: the completed orders are those of the factors, and so is L. Assumes nothing.
use Rattle.factor_passes.proofs.PassTwo.{columns-part, two-columns, rows-part, two-rows, two-done}
use Rattle.factor_passes.proofs.passes.pass_two.Goals as goal

pub slice_bounds-complete-end-2 : goal.slice_bounds-complete-end-2
slice_bounds-complete-end-2 c = columns-part _ _ _ _ _ _ _ c.requires

pub complete-requires : goal.complete-requires
complete-requires c = two-columns _ _ _ _ _ _ _ c.requires

pub slice_bounds-complete-end-4 : goal.slice_bounds-complete-end-4
slice_bounds-complete-end-4 c = rows-part _ _ _ _ _ _ _ c.requires _ _ c.complete.ensures

pub complete-requires-2 : goal.complete-requires-2
complete-requires-2 c = two-rows _ _ _ _ _ _ _ c.requires _ _ c.complete.ensures

pub turn_lower-requires : goal.turn_lower-requires
turn_lower-requires c = record { f = c.requires.f; from = c.requires.from.lower }

pub returns : goal.returns
returns c = two-done _ _ _ _ _ _ _ c.requires _ _ c.complete.ensures _ _ c.complete-2.ensures _ c.turn_lower.ensures

-- `fits` meets its contract: the tests by differences are the tests by sums. Assumes nothing.
use Rattle.factor_row.proofs.PivotRows.{no_room, some-room}
use Rattle.factor_row.proofs.pivot_row.fits.Goals as goal

pub returns-then-lower-total : goal.returns-then-lower-total
returns-then-lower-total c = let a = c.args in no_room a.total a.lower a.at a.k _ c.if-lower-total.true

pub returns : goal.returns
returns c = let a = c.args in some-room a.total a.lower a.at a.upper a.k c.requires.0 c.if-lower-total.false c.requires.1

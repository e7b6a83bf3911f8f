-- `copy_row` meets its contract. Assumes nothing.
use native.Mathlib.Omega.{arith}
use lib.ListN.{length-set}
use Rattle.factor_copies.proofs.HoldLaws.{first-inside, copy-spreads, copy-long, copy-copied}
use Rattle.factor_copies.proofs.holding.copy_row.Goals as goal

pub overflow_cast-copies-2 : goal.overflow_cast-copies-2
overflow_cast-copies-2 c = omega (arith, first-inside _ _ _ _ _ _ c.requires _ c.index-low.ensures, c.requires.narrow)

pub bounds-copies-r-2 : goal.bounds-copies-r-2
bounds-copies-r-2 c = omega (arith, c.requires.row, c.requires.low, c.requires.room, length-set c.args.copies.now c.args.r c.args.fill)

pub spread-requires : goal.spread-requires
spread-requires c = copy-spreads _ _ _ _ _ _ c.requires _ c.index-low.ensures

pub overflow_sub-result : goal.overflow_sub-result
overflow_sub-result c = omega (arith, first-inside _ _ _ _ _ _ c.requires _ c.index-low.ensures)

pub shape_of-copies : goal.shape_of-copies
shape_of-copies c = copy-long _ _ _ _ _ _ c.requires _ c.index-low.ensures _ c.spread.ensures

pub returns : goal.returns
returns c = copy-copied _ _ _ _ _ _ c.requires _ c.index-low.ensures _ c.spread.ensures

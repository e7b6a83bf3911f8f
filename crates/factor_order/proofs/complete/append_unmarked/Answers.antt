-- `append_unmarked` meets its contract; the loop's invariant: the numbers passed that are not marked are written. Assumes nothing.
use native.Mathlib.Omega.{arith}
use Rattle.factor_order.proofs.Completing.{marks-long, appending-starts, appending-room, appending-turn, appending-ends}
use Rattle.factor_order.proofs.complete.append_unmarked.Goals as goal

pub loop-x-init : goal.loop-x-init
loop-x-init c = appending-starts _ _ _ c.requires

pub overflow_cast-x : goal.overflow_cast-x
overflow_cast-x c = omega (arith, c.requires.narrow, marks-long _ _ _ c.requires)

pub append-at-requires : goal.append-at-requires
append-at-requires c = let h = c.loop-x in appending-room _ _ _ c.requires h.list h.at h.x h.invariant c.loop-x-test.true

pub loop-x-preserved : goal.loop-x-preserved
loop-x-preserved c = let h = c.loop-x in appending-turn _ _ _ c.requires h.list h.at h.x h.invariant _ _ c.loop-x-test.true c.append-at.ensures

pub returns : goal.returns
returns c = let h = c.loop-x in appending-ends _ _ _ c.requires h.list h.at h.x h.invariant (omega arith) _ c.clear_row.ensures

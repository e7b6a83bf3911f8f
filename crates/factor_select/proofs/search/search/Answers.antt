-- `search` meets its contract; the loop's invariant is `Reaching` and the place of the lowest candidate that is left, the measure the columns that can
-- still leave the queue. Assumes nothing.
use Prim.Native.Nat.{◌≤◌, ◌<◌}
use native.Mathlib.Omega.{arith}
use lib.ListN.{length}
use Rattle.factor_select.proofs.Trails.{trail-few, visited-still}
use Rattle.factor_select.proofs.Fitting.{next-later}
use Rattle.factor_select.proofs.Reaching.{own-stored, own-ready, reaching-starts, next-stored, next-ready, reaching-turn}
use Rattle.factor_select.proofs.Surviving.{fit-ready, none-survives, one-survives}
use Rattle.factor_select.proofs.search.search.Goals as goal

pub columns_of-own-requires : goal.columns_of-own-requires
columns_of-own-requires c = own-stored c.requires

pub visit-tail-requires : goal.visit-tail-requires
visit-tail-requires c = own-ready c.requires _ c.columns_of-own.ensures

pub next_fit-t-requires : goal.next_fit-t-requires
next_fit-t-requires c = fit-ready c.requires _ c.columns_of-own.ensures _ c.visit-tail.ensures.trail.stamps-long

pub loop-t-init : goal.loop-t-init
loop-t-init c = (reaching-starts c.requires _ c.columns_of-own.ensures _ _ _ c.visit-tail.ensures, c.next_fit-t.ensures)

pub returns-then-tail-head : goal.returns-then-tail-head
returns-then-tail-head c = one-survives c.requires _ c.columns_of-own.ensures c.visit-tail.ensures c.loop-t.invariant.0 c.loop-t.invariant.1 c.loop-t-test.true c.if-tail-head.true _ c.index.ensures

pub offset_bounds-queue-head : goal.offset_bounds-queue-head
offset_bounds-queue-head c =
    let place : c.loop-t.head < length c.args.work.now = omega (arith, c.if-tail-head.false, trail-few _ _ _ _ _ c.loop-t.invariant.0.trail) in
    omega (arith, place, c.requires.sized.m-small)

pub bounds-queue-head : goal.bounds-queue-head
bounds-queue-head c =
    let place : c.loop-t.head < length c.args.work.now = omega (arith, c.if-tail-head.false, trail-few _ _ _ _ _ c.loop-t.invariant.0.trail) in
    omega (arith, place, c.loop-t.invariant.0.trail.queue_long)

pub columns_of-row-requires : goal.columns_of-row-requires
columns_of-row-requires c = next-stored c.requires c.loop-t.invariant.0 c.if-tail-head.false _ c.index-c.ensures

pub visit-tail-requires-in-loop-t : goal.visit-tail-requires-in-loop-t
visit-tail-requires-in-loop-t c = next-ready c.requires c.loop-t.invariant.0 c.if-tail-head.false _ c.index-c.ensures _ c.columns_of-row.ensures

pub next_fit-t-requires-in-loop-t : goal.next_fit-t-requires-in-loop-t
next_fit-t-requires-in-loop-t c = fit-ready c.requires _ c.columns_of-own.ensures _ c.visit-tail-in-loop-t.ensures.trail.stamps-long

pub loop-t-smaller : goal.loop-t-smaller
loop-t-smaller c =
    let before-end : (c.loop-t.head < c.visit-tail-in-loop-t.result) × (c.visit-tail-in-loop-t.result ≤ length c.args.work.now) = (omega (arith, c.if-tail-head.false, c.visit-tail-in-loop-t.ensures.tail-grows), trail-few _ _ _ _ _ c.visit-tail-in-loop-t.ensures.trail) in
    let e = before-end in omega (arith, e.0, e.1)

pub loop-t-preserved : goal.loop-t-preserved
loop-t-preserved c = (
  reaching-turn c.requires c.loop-t.invariant.0 c.if-tail-head.false _ c.index-c.ensures _ c.columns_of-row.ensures _ _ _ c.visit-tail-in-loop-t.ensures,
  next-later _ _ _ _ _ _ _ (visited-still c.visit-tail-in-loop-t.ensures) c.loop-t.invariant.1 c.next_fit-t-in-loop-t.ensures,
)

pub returns : goal.returns
returns c = none-survives c.requires _ c.columns_of-own.ensures c.visit-tail.ensures c.loop-t.invariant.0 c.loop-t.invariant.1 c.loop-t-test.false

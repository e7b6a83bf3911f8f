-- `list_pairs` meets its contract; the loop's invariant is `Listing`: `at` pairs are listed, and k is the lowest ready row. Assumes nothing.
use native.Mathlib.Omega.{arith}
use Rattle.factor_arrange.proofs.Listing.{listing-starts, listing-fits, listing-turn, listing-ends, listing-full}
use Rattle.factor_arrange.proofs.list_pairs.Goals as goal

pub loop-at-init : goal.loop-at-init
loop-at-init c = listing-starts _ _ _ _ _ _ _ _ _ _ _ c.requires c.next_nonzero-k.ensures

pub offset_bounds-ro-at : goal.offset_bounds-ro-at
offset_bounds-ro-at c = omega (arith, (listing-fits _ _ _ _ _ _ _ _ _ _ _ _ c.loop-at.invariant c.if-k-ready.false).2)

pub bounds-ro-at : goal.bounds-ro-at
bounds-ro-at c = (listing-fits _ _ _ _ _ _ _ _ _ _ _ _ c.loop-at.invariant c.if-k-ready.false).0

pub offset_bounds-co-at : goal.offset_bounds-co-at
offset_bounds-co-at c = omega (arith, (listing-fits _ _ _ _ _ _ _ _ _ _ _ _ c.loop-at.invariant c.if-k-ready.false).2)

pub bounds-co-at : goal.bounds-co-at
bounds-co-at c = (listing-fits _ _ _ _ _ _ _ _ _ _ _ _ c.loop-at.invariant c.if-k-ready.false).1

pub loop-at-preserved : goal.loop-at-preserved
loop-at-preserved c = rw c.release-low.ensures.0 (listing-turn _ _ _ _ _ _ _ _ _ _ _ _ c.loop-at.invariant c.if-k-ready.false _ _ _ _ c.release-low.ensures.1 c.next_nonzero-k-in-loop-at.ensures)

pub returns-then-k-ready : goal.returns-then-k-ready
returns-then-k-ready c = listing-ends _ _ _ _ _ _ _ _ _ _ _ _ c.loop-at.invariant (omega (arith, c.if-k-ready.true))

pub returns : goal.returns
returns c = listing-full _ _ _ _ _ _ _ _ _ _ _ _ c.loop-at.invariant (omega (arith, c.loop-at-test.false, c.loop-at.invariant.stage.ready-long)) _ (omega (arith, c.loop-at-test.false, c.loop-at.auto.at-end))

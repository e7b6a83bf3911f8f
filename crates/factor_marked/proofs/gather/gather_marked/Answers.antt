-- `gather_marked` meets its contract; the loop's invariant is `MarkedGathering`, the measure what is left. Assumes nothing.
use mathlib.Core.Path.{◌≡◌}
use native.Mathlib.Omega.{arith}
use lib.ListN.{get_or}
use Rattle.factor_marked.proofs.MarkedPivots.{marked-starts, marked-ends, marked-passed, turn-search, turn-passed, marked-full}
use Rattle.factor_marked.proofs.gather.gather_marked.Goals as goal

pub loop-k-init : goal.loop-k-init
loop-k-init c = marked-passed _ _ _ _ _ _ _ _ _ _ _ _ c.requires _ _ _ _ _ _ _ _ (marked-starts _ _ _ _ _ _ _ _ _ _ _ _ c.requires) _ c.next_pivot-k.ensures

pub returns-then-g : goal.returns-then-g
returns-then-g c =
    let column : c.index-c.result ≡ get_or c.args.co.now c.loop-k.k 0 = c.index-c.ensures in
    marked-full _ _ _ _ _ _ _ _ _ _ _ _ c.requires _ _ _ _ _ _ _ _ c.loop-k.invariant c.loop-k-test.true _ (column) _ _ _ _ _ _ _ _ c.gather_pivot-g.ensures c.if-g.true _ _ _ _ _

pub next_pivot-k-requires-in-loop-k : goal.next_pivot-k-requires-in-loop-k
next_pivot-k-requires-in-loop-k c =
    let column : c.index-c.result ≡ get_or c.args.co.now c.loop-k.k 0 = c.index-c.ensures in
    turn-search _ _ _ _ _ _ _ _ _ _ _ _ c.requires _ _ _ _ _ _ _ _ c.loop-k.invariant c.loop-k-test.true _ (column) _ _ _ _ _ _ _ _ c.gather_pivot-g.ensures c.if-g.false

pub loop-k-preserved : goal.loop-k-preserved
loop-k-preserved c =
    let column : c.index-c.result ≡ get_or c.args.co.now c.loop-k.k 0 = c.index-c.ensures in
    turn-passed _ _ _ _ _ _ _ _ _ _ _ _ c.requires _ _ _ _ _ _ _ _ c.loop-k.invariant c.loop-k-test.true _ (column) _ _ _ _ _ _ _ _ c.gather_pivot-g.ensures c.if-g.false _ c.next_pivot-k-in-loop-k.ensures

pub returns : goal.returns
returns c = marked-ends _ _ _ _ _ _ _ _ _ _ _ _ c.requires _ _ _ _ _ _ _ _ c.loop-k.invariant (omega (arith, c.loop-k-test.false))

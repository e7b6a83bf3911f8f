-- `mark` meets its contract; the loop's invariant is `Marking`: the numbers passed are marked. Assumes nothing.
use Prim.Native.Nat.{◌<◌}
use native.Mathlib.Omega.{arith}
use lib.ListN.{length}
use lib.Seq.{length-take-le, get_or-take}
use Rattle.factor_order.proofs.Completing.{marking-starts, marking-turn, marking-ends}
use Rattle.factor_order.proofs.complete.mark.Goals as goal

pub loop-x-init : goal.loop-x-init
loop-x-init c = marking-starts _ _ _ c.requires.marks

pub loop-x-preserved : goal.loop-x-preserved
loop-x-preserved c =
    let k = c.args.k in
    let xs = c.args.list.now in
    let i = c.loop-x.x-index in
    let before : i < k = omega (arith, c.loop-x-test.true, length-take-le k xs c.requires.inside) in
    let inside : c.index.result < length xs = omega (arith, c.index.ensures, get_or-take k xs i 0 before, c.requires.distinct.below i before) in
    marking-turn _ _ _ i c.index.result c.loop-x-test.true c.index.ensures inside c.loop-x.invariant

pub returns : goal.returns
returns c = marking-ends _ _ _ _ c.loop-x-test.false c.loop-x.invariant

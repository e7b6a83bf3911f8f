-- `settle` meets its contract; the loop's invariant is `Settling`, the measure what is left. Assumes nothing.
use Prim.Native.Nat.{◌+◌, ◌<◌}
use native.Mathlib.Omega.{arith}
use lib.ListN.{length, set}
use Rattle.factor_touch.proofs.SettleSteps.{Settling, settling-turn, settling-over, settling-ends}
use Rattle.factor_touch.proofs.settling.settle.Goals as goal

pub loop-j-preserved : goal.loop-j-preserved
loop-j-preserved c =
    let inside : c.loop-j.j < length c.args.work.now = omega (arith, c.loop-j-test.true, c.loop-j.invariant.long) in
    let turned : let h = c.loop-j in let s = c.args in
    Settling s.q.p s.work.now (set h.work h.j c.reduce_cell-v.result) c.count_cell-found.result.count c.count_cell-found.result.low (h.j + 1) = let h = c.loop-j in
    settling-turn _ _ h.work _ _ h.j h.invariant _ (inside) c.reduce_cell-v.ensures.value _ _ c.count_cell-found.ensures in
    settling-over _ _ _ _ _ _ _ c.next_touched-j.ensures (turned)

pub returns : goal.returns
returns c = settling-ends _ _ _ _ _ _ c.loop-j.invariant (omega (arith, c.loop-j-test.false, c.loop-j.invariant.long))

-- `gather_multiples` meets its contract; the loop's invariant is `Gathering`. Assumes nothing.
use Prim.Native.Nat.{◌<◌}
use mathlib.Core.Path.{◌≡◌}
use native.Mathlib.Omega.{arith}
use lib.ListN.{length, get_or}
use Rattle.factor_reduce.proofs.Gathering.{gathering-starts, gathering-zero, gathering-turn, gathering-over}
use Rattle.factor_reduce.proofs.gather.gather_multiples.Goals as goal
use Rattle.factor_reduce.proofs.gather.gather_multiples.Goals.{then-work-c-ne0+else-g, else-work-c-ne0}

pub loop-k-init : goal.loop-k-init
loop-k-init c = gathering-starts _ _ _ _ _ _ _ _ c.requires

pub returns-then-g : goal.returns-then-g
returns-then-g c =
    let place : c.index-c.result ≡ get_or c.args.co.now c.loop-k.k 0 = c.index-c.ensures in
    gathering-over _ _ _ _ _ _ _ _ c.requires _ _ _ _ c.loop-k.k c.loop-k.invariant (omega (arith, c.loop-k-test.true)) c.index-c.result (place) _ _ _ _ _ c.gather_step-g.ensures c.if-g.true _ _ _ _

pub loop-k-preserved : goal.loop-k-preserved
loop-k-preserved c =
    let place : c.index-c.result ≡ get_or c.args.co.now c.loop-k.k 0 = c.index-c.ensures in
    let h : c.loop-k.k < length c.args.co.now = c.loop-k-test.true in
    elim c.if-work-c-ne0.branch [
      | then-work-c-ne0+else-g w ↦ rw (w.work-is, w.lc-is, w.lv-is, w.next-is) (gathering-turn _ _ _ _ _ _ _ _ c.requires _ _ _ _ c.loop-k.k c.loop-k.invariant h c.index-c.result place _ _ _ _ _ w.gather_step-g.ensures w.if-g.false)
      | else-work-c-ne0 w ↦ rw (w.work-is, w.lc-is, w.lv-is, w.next-is) (gathering-zero _ _ _ _ _ _ _ _ c.requires _ _ _ _ c.loop-k.k c.loop-k.invariant h c.index-c.result place w.if-work-c-ne0.false)
    ]

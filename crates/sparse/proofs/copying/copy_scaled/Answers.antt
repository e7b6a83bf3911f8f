-- `copy_scaled` meets its contract; the loop's invariant is `Copying`. Assumes nothing.
use Prim.Native.Nat.{◌<◌}
use native.Mathlib.Omega.{arith}
use lib.ListN.{length}
use Rattle.sparse.proofs.CopySteps.{copying-starts, copying-turn}
use Rattle.sparse.proofs.copying.copy_scaled.Goals as goal

pub loop-t-init : goal.loop-t-init
loop-t-init c = copying-starts _ _ _ _ _ _ _

pub loop-t-preserved : goal.loop-t-preserved
loop-t-preserved c =
    let valued : c.loop-t.t < length c.args.rv.now = omega (arith, c.loop-t-test.true, c.requires.paired) in
    let h = c.loop-t in
    copying-turn _ _ _ _ _ _ _ h.cols h.vals h.t h.invariant _ c.loop-t-test.true (valued) c.requires.below c.multiply-product.ensures.value

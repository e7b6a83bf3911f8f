-- `find_dense` meets its contract; the invariant is `DenseGoing`: the lists and the block hold what the turns so far find, and the turns that remain
-- end as all of them do. Assumes nothing.
use Prim.Native.Nat.{◌<◌}
use mathlib.Core.Path.{refl}
use native.Mathlib.Omega.{arith}
use lib.ListN.{length}
use Rattle.factor_turn.proofs.PivotPass.{same_then}
use Rattle.factor_first.proofs.DensePass.{dense-starts, dense-next, dense-over, dense-turn, dense-ends}
use Rattle.factor_first.proofs.dense.find_dense.Goals as goal

pub loop-k-init : goal.loop-k-init
loop-k-init c = dense-starts _ _ _ _ _ _ _ _ _ _ c.requires c.tail-js.ensures _ _ refl refl

pub take_dense_row-turn-requires : goal.take_dense_row-turn-requires
take_dense_row-turn-requires c =
    let inside : c.loop-k.k < length c.args.ro.now = omega (arith, c.loop-k-test.true, c.loop-k.invariant.rows.same.R-long) in
    dense-next _ _ _ _ _ _ _ _ _ _ c.requires _ _ _ _ _ _ _ _ _ c.loop-k.invariant (inside)

pub returns-then-over : goal.returns-then-over
returns-then-over c =
    let inside : c.loop-k.k < length c.args.ro.now = omega (arith, c.loop-k-test.true, c.loop-k.invariant.rows.same.R-long) in
    let t = c.take_dense_row-turn in
    dense-over _ _ _ _ _ _ _ _ _ _ c.requires _ _ _ _ _ _ _ _ _ c.loop-k.invariant (inside) _ _ _ _ _ _ t.ensures c.if-over.true

pub loop-k-preserved : goal.loop-k-preserved
loop-k-preserved c =
    let inside : c.loop-k.k < length c.args.ro.now = omega (arith, c.loop-k-test.true, c.loop-k.invariant.rows.same.R-long) in
    let t = c.take_dense_row-turn in
    dense-turn _ _ _ _ _ _ _ _ _ _ c.requires _ _ _ _ _ _ _ _ _ c.loop-k.invariant (inside) _ _ _ _ _ _ t.ensures c.if-over.false
    (same_then _ _ _ _ _ _ _ _ _ _ _ _ _ _ _ c.loop-k.invariant.rows.same t.auto.ro t.auto.co t.auto.ls t.auto.lc t.auto.lv t.auto.us t.auto.uc t.auto.uv t.auto.work)

pub returns : goal.returns
returns c =
    let v = c.loop-k.invariant in
    dense-ends _ _ _ _ _ _ _ _ _ _ c.requires _ _ _ _ _ _ _ _ _ v (omega (arith, c.loop-k-test.false, v.rows.same.R-long)) _

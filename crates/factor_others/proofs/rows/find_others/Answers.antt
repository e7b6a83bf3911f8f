-- `find_others` meets its contract; the invariant is `Taking`: the lists hold what the turns so far find, each pivot column has its place, and the turns that
-- remain end as all of them do. Assumes nothing.
use Prim.Native.Nat.{◌<◌}
use mathlib.Core.Path.{refl, ◌∙◌}
use native.Mathlib.Omega.{arith}
use lib.ListN.{length}
use Rattle.factor_turn.proofs.PivotPass.{same_then}
use Rattle.factor_others.proofs.OtherPass.{no-places, places-ready, taking-ready, taking-over, taking-enter, taking-turn, taking-ends}
use Rattle.factor_others.proofs.rows.find_others.Goals as goal

pub fill_places-requires : goal.fill_places-requires
fill_places-requires c = places-ready _ _ _ _ _ _ _ _ _ c.requires _ refl (no-places 2048 _ refl)

pub take_marked_row-progress-requires : goal.take_marked_row-progress-requires
take_marked_row-progress-requires c =
    let inside : c.loop-k.k < length c.args.ro.now = omega (arith, c.loop-k-test.true, c.loop-k.invariant.rows.same.R-long) in
    taking-ready _ _ _ _ _ _ _ _ _ c.requires _ _ _ _ _ _ _ _ c.loop-k.invariant (inside)

pub returns-then-over : goal.returns-then-over
returns-then-over c =
    let inside : c.loop-k.k < length c.args.ro.now = omega (arith, c.loop-k-test.true, c.loop-k.invariant.rows.same.R-long) in
    taking-over _ _ _ _ _ _ _ _ _ c.requires _ _ _ _ _ _ _ _ c.loop-k.invariant (inside) _ _ _ _ _ _ c.take_marked_row-progress.ensures c.if-over.true

pub enter_place-requires : goal.enter_place-requires
enter_place-requires c =
    let inside : c.loop-k.k < length c.args.ro.now = omega (arith, c.loop-k-test.true, c.loop-k.invariant.rows.same.R-long) in
    let t = c.take_marked_row-progress in
    taking-enter _ _ _ _ _ _ _ _ _ c.requires _ _ _ _ _ _ _ _ c.loop-k.invariant (inside) _ _ _ _ _ _ t.ensures c.if-over.false (t.auto.co ∙ c.loop-k.invariant.rows.same.C-long)

pub loop-k-preserved : goal.loop-k-preserved
loop-k-preserved c =
    let inside : c.loop-k.k < length c.args.ro.now = omega (arith, c.loop-k-test.true, c.loop-k.invariant.rows.same.R-long) in
    let t = c.take_marked_row-progress in
    taking-turn _ _ _ _ _ _ _ _ _ c.requires _ _ _ _ _ _ _ _ c.loop-k.invariant (inside) _ _ _ _ _ _ t.ensures c.if-over.false
    (same_then _ _ _ _ _ _ _ _ _ _ _ _ _ _ _ c.loop-k.invariant.rows.same t.auto.ro t.auto.co t.auto.ls t.auto.lc t.auto.lv t.auto.us t.auto.uc t.auto.uv t.auto.work) _ c.enter_place.auto.place c.enter_place.ensures

pub returns : goal.returns
returns c =
    let v = c.loop-k.invariant in
    taking-ends _ _ _ _ _ _ _ _ _ c.requires _ _ _ _ _ _ _ _ v (omega (arith, c.loop-k-test.false, v.rows.same.R-long)) _

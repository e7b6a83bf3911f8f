-- `find_pivots` meets its contract; the invariant is `Passing`: the lists hold what the turns so far find, and the turns that remain end as the whole
-- schedule does. After the pairs `find_rest` takes those that remain. Assumes nothing.
use mathlib.Core.Path.{refl}
use native.Mathlib.Omega.{arith}
use Rattle.factor_turn.proofs.PivotPass.{passing-starts, passed_over, same_then}
use Rattle.factor_first.proofs.TwoParts.{pair-ready, pair-over, pair_turn, all-taken, remaining-ready, rows_taken}
use Rattle.factor_first.proofs.pass.find_pivots.Goals as goal

pub loop-k-init : goal.loop-k-init
loop-k-init c = (passing-starts _ _ _ _ _ _ _ _ c.requires, refl)

pub take_pair_row-progress-requires : goal.take_pair_row-progress-requires
take_pair_row-progress-requires c = pair-ready _ _ _ _ _ _ _ _ c.requires _ _ _ _ _ _ _ c.loop-k.invariant.0 c.loop-k-test.true

pub returns-then-over : goal.returns-then-over
returns-then-over c =
    let t = c.take_pair_row-progress in
    passed_over _ _ _ _ _ _ _ _ _ _ _ _ _ _ _ c.if-over.true
    (pair-over _ _ _ _ _ _ _ _ c.requires _ _ _ _ _ _ _ c.loop-k.invariant.0 c.loop-k-test.true _ _ _ _ _ _ t.ensures c.if-over.true)

pub loop-k-preserved : goal.loop-k-preserved
loop-k-preserved c =
    let t = c.take_pair_row-progress in (
      pair_turn _ _ _ _ _ _ _ _ c.requires _ _ _ _ _ _ _ c.loop-k.invariant.0 c.loop-k-test.true _ _ _ _ _ _ t.ensures c.if-over.false
          (same_then _ _ _ _ _ _ _ _ _ _ _ _ _ _ _ c.loop-k.invariant.0.same t.auto.ro t.auto.co t.auto.ls t.auto.lc t.auto.lv t.auto.us t.auto.uc t.auto.uv t.auto.work),
      c.if-over.false,
    )

pub find_rest-requires : goal.find_rest-requires
find_rest-requires c = remaining-ready _ _ _ _ _ _ _ _ c.requires _ _ _ _ _ _ _ c.loop-k.invariant.0 c.loop-k.invariant.1 c.loop-k.auto.k-end (omega (arith, c.loop-k-test.false))

pub returns-then-s-ro : goal.returns-then-s-ro
returns-then-s-ro c =
    let d = c.find_rest in
    rows_taken _ _ _ _ _ _ _ _ c.requires _ _ _ _ _ _ _ c.loop-k.invariant.0 c.loop-k.invariant.1 c.loop-k.auto.k-end (omega (arith, c.loop-k-test.false)) _ _ _ _ _ _ d.ensures

pub returns : goal.returns
returns c =
    let v = c.loop-k.invariant in
    all-taken _ _ _ _ _ _ _ _ c.requires _ _ _ _ _ _ _ v.0 v.1 (omega (arith, c.loop-k-test.false, c.if-s-ro.false, v.0.same.R-long)) _

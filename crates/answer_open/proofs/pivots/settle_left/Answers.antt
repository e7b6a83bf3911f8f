-- `settle_left` meets its contract; the loop's invariant is `SettledOn`: the pivot columns of the rows from k on have their verdicts. Assumes nothing.
use mathlib.Core.Path.{◌∙◌}
use native.Mathlib.Omega.{arith}
use Rattle.answer_open.proofs.PivotLoop.{settled-place, settled-ready, settled-next, settled-ends}
use Rattle.answer_open.proofs.pivots.settle_left.Goals as goal

pub pivot_open-requires : goal.pivot_open-requires
pivot_open-requires c =
    let l = c.loop-k in
    settled-ready _ _ _ _ _ c.requires.factor _ l.k (omega arith) l.invariant.settled _ l.invariant.long l.invariant.clear

pub bounds-marks-j : goal.bounds-marks-j
bounds-marks-j c =
    let l = c.loop-k in
    settled-place _ _ _ _ _ c.requires.factor l.marks l.k (omega arith) l.invariant.settled _ (c.index-j.ensures ∙ c.at.ensures.value)

pub loop-k-preserved : goal.loop-k-preserved
loop-k-preserved c =
    let l = c.loop-k in record {
      settled = settled-next _ _ _ _ _ c.requires.factor l.marks l.k (omega arith) l.invariant.settled l.work _ c.index-j.result c.pivot_open.result (c.index-j.ensures ∙ c.at.ensures.value) l.invariant.long c.pivot_open.ensures;
      most = omega (arith, l.invariant.most);
      long = c.pivot_open.auto.work ∙ l.invariant.long;
      clear = c.pivot_open.ensures.row;
    }

pub returns : goal.returns
returns c =
    let l = c.loop-k in
    record { list = settled-ends _ _ _ _ _ c.requires.factor l.marks l.k (omega arith) l.invariant.settled; row = l.invariant.clear }

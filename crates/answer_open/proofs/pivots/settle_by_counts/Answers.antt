-- `settle_by_counts` meets its contract; the loop's invariant is `SettledTo`: the pivot columns of the rows from k on have their verdicts. Assumes nothing.
use mathlib.Core.Path.{◌∙◌}
use native.Mathlib.Omega.{arith}
use Rattle.answer_open.proofs.PivotLoop.{settled-place, settled-counted}
use Rattle.answer_open.proofs.pivots.settle_by_counts.Goals as goal

pub bounds-marks-index : goal.bounds-marks-index
bounds-marks-index c =
    let l = c.loop-k in settled-place _ _ _ _ _ c.requires.factor l.marks l.k (omega arith) l.invariant.settled _ (c.index.ensures ∙ c.at-d.ensures.value)

pub loop-k-preserved : goal.loop-k-preserved
loop-k-preserved c =
    let l = c.loop-k in
    record {
      settled =
          settled-counted _ _ _ _ _ c.requires.factor l.marks l.k (omega arith) l.invariant.settled
          _ _ _ c.at-d.ensures.value c.index.ensures c.row_closed-closed.ensures (omega arith);
      most = omega (arith, l.invariant.most);
    }

-- `count` meets its contract; the loop's invariant is `CountedTo`: the rows below k are counted. Assumes nothing.
use mathlib.Core.Path.{◌∙◌}
use native.Mathlib.Omega.{arith}
use Rattle.factor_arrange.proofs.Counting.{counted-starts, counted-over}
use Rattle.factor_arrange.proofs.degrees.count.Goals as goal
use Rattle.factor_arrange.proofs.degrees.count.Goals.{then-chosen-k-ne0, else-chosen-k-ne0}

pub loop-k-init : goal.loop-k-init
loop-k-init c = counted-starts _ _ _ _ _ _ c.requires

pub loop-k-preserved : goal.loop-k-preserved
loop-k-preserved c =
    elim c.if-chosen-k-ne0.branch [
      | then-chosen-k-ne0 w ↦ rw w.degrees-is (record { inside = omega (arith, c.loop-k-test.true); long = w.count_row.auto.degrees ∙ c.loop-k.invariant.long; rows = w.count_row.ensures })
      | else-chosen-k-ne0 w ↦ rw w.degrees-is (counted-over _ _ _ _ _ _ c.requires _ _ c.loop-k.invariant c.loop-k-test.true w.if-chosen-k-ne0.false)
    ]

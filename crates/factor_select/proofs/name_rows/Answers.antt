-- `name_rows` meets its contract; the loop's invariant is `Naming`. Assumes nothing.
use native.Mathlib.Omega.{arith}
use Rattle.factor_select.proofs.Cells.{naming-starts, named-row, naming-none, naming-one, naming-ends}
use Rattle.factor_select.proofs.name_rows.Goals as goal
use Rattle.factor_select.proofs.name_rows.Goals.{then-cell-ne0, else-cell-ne0}

pub loop-c-init : goal.loop-c-init
loop-c-init c = naming-starts _ _ _ _ _ c.requires

pub offset_bounds-chosen-cell : goal.offset_bounds-chosen-cell
offset_bounds-chosen-cell c = omega (arith, named-row _ _ _ _ _ c.requires _ c.if-cell-ne0.true, c.requires.sized.n-small)

pub bounds-chosen-cell : goal.bounds-chosen-cell
bounds-chosen-cell c = omega (arith, named-row _ _ _ _ _ c.requires _ c.if-cell-ne0.true, c.loop-c.invariant.long)

pub loop-c-preserved : goal.loop-c-preserved
loop-c-preserved c =
    elim c.if-cell-ne0.branch [
      | then-cell-ne0 w ↦ rw w.chosen-is (naming-one _ _ _ _ _ c.requires _ _ c.loop-c.invariant w.if-cell-ne0.true)
      | else-cell-ne0 w ↦ rw w.chosen-is (naming-none _ _ _ _ _ c.requires _ _ c.loop-c.invariant w.if-cell-ne0.false)
    ]

pub returns : goal.returns
returns c = naming-ends _ _ _ _ _ c.requires _ _ c.loop-c.invariant (omega arith)

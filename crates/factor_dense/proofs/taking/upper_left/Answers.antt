-- `upper_left` meets its contract: each way out is a law of `UpperRows`. Assumes nothing.
use mathlib.Core.Path.{refl}
use Rattle.factor_dense.proofs.UpperRows.{upper-full, upper-stored}
use Rattle.factor_dense.proofs.taking.upper_left.Goals as goal

pub returns-then-e : goal.returns-then-e
returns-then-e c = upper-full _ _ _ _ _ _ _ _ _ _ _ _ _ _ c.requires _ c.reduce_cell-v.ensures _ c.invert.ensures _ c.scale_row-new.ensures _ _ _ _ c.store_entry-e.ensures _ _ _ c.index-c.ensures refl refl _ c.if-e.true c.dense_step.ensures _ _ _ _

pub returns : goal.returns
returns c = upper-stored _ _ _ _ _ _ _ _ _ _ _ _ _ _ c.requires _ c.reduce_cell-v.ensures _ c.invert.ensures _ c.scale_row-new.ensures _ _ _ _ c.store_entry-e.ensures _ _ _ c.index-c.ensures refl refl _ c.if-e.false _ _ c.dense_step-2.ensures _ _ c.store_left-u.ensures

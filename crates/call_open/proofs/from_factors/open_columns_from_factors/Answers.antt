-- `open_columns_from_factors` meets its contract: each way out is a law of `Ways`.
use Rattle.std.proofs.Common.{sym}
use Rattle.call_check.proofs.Theorems.{factors-exactly}
use Rattle.call_check.proofs.Checked.{factors-checked}
use Rattle.call_open.specs.Calls.{open_factors_of}
use Rattle.call_open.proofs.Ways.{columns-ready, ready_by, columns_of, wrong-length, refuses, lists}
use Rattle.call_open.proofs.from_factors.open_columns_from_factors.Goals as goal

pub returns-then-marks-m : goal.returns-then-marks-m
unfolding open_factors_of
returns-then-marks-m c = rw c.into.ensures (wrong-length _ _ _ _ _ _ c.if-marks-m.true _ _ c.clear.ensures c.clear_row.ensures)

pub returns-in-Err : goal.returns-in-Err
unfolding open_factors_of
returns-in-Err c = refuses _ _ _ _ _ _ c.if-marks-m.false _ _ _ c.in-Err.ensures _ c.clear-in-Err.ensures

pub open_columns-requires : goal.open_columns-requires
open_columns-requires c =
    let h = c.in_default.ensures in
    let passed = sym h.outcome in
    ready_by _ _ _ _ _ c.stored_set-set.ensures
    (columns-ready _ _ _ _ _ _ _ _ c.if-marks-m.false ((factors-exactly _ _ _ _ _ _).0 passed).plan.few-columns (factors-checked _ _ _ _ _ _ passed) h.cleared)

pub returns : goal.returns
unfolding open_factors_of
returns c =
    lists _ _ _ _ _ _ c.if-marks-m.false _ c.in_default.ensures _ _ c.open_columns.auto.marks c.open_columns.auto.work
    (columns_of _ _ _ _ _ _ c.stored_set-set.ensures c.open_columns.auto.marks c.open_columns.ensures)

-- `open_columns_from_certificate` meets its contract: each way out is a law of `Ways`.
use Rattle.std.proofs.Common.{sym}
use Rattle.certificate.proofs.Passed.{headed}
use Rattle.call_check.proofs.Theorems.{certificate-exactly}
use Rattle.call_check.proofs.Checked.{header-passed, certificate-checked}
use Rattle.call_open.specs.Calls.{open_certificate_of}
use Rattle.call_open.proofs.Ways.{columns-ready, wrong-length, refuses, lists}
use Rattle.call_open.proofs.from_certificate.open_columns_from_certificate.Goals as goal

pub returns-then-marks-m : goal.returns-then-marks-m
unfolding open_certificate_of
returns-then-marks-m c = rw c.into.ensures (wrong-length _ _ _ _ _ _ c.if-marks-m.true _ _ c.clear.ensures c.clear_row.ensures)

pub returns-in-Err : goal.returns-in-Err
unfolding open_certificate_of
returns-in-Err c = refuses _ _ _ _ _ _ c.if-marks-m.false _ _ _ c.in-Err.ensures _ c.clear-in-Err.ensures

pub open_columns_of_parts-requires : goal.open_columns_of_parts-requires
open_columns_of_parts-requires c =
    let h = c.in_default.ensures in
    let passed = sym h.outcome in
    record {
      long = (headed _ _ _ _ (header-passed _ _ _ _ _ _ passed)).long;
      ready = columns-ready _ _ _ _ _ _ _ _ c.if-marks-m.false ((certificate-exactly _ _ _ _ _ _).0 passed).plan.few-columns (certificate-checked _ _ _ _ _ _ passed) h.cleared;
    }

pub returns : goal.returns
unfolding open_certificate_of
returns c = lists _ _ _ _ _ _ c.if-marks-m.false _ c.in_default.ensures _ _ c.open_columns_of_parts.auto.marks c.open_columns_of_parts.auto.work c.open_columns_of_parts.ensures

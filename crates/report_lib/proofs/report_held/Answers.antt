-- `report_held` meets its contract: each way out is a law of `Printing`. Assumes nothing.
use Rattle.std.proofs.Common.{refl}
use native.Mathlib.Omega.{arith}
use Rattle.sparse.specs.Matrix.{compressed}
use Rattle.sparse.specs.Set.{storage_of}
use Rattle.print_text.proofs.Room.{report-room, refusal-room}
use Rattle.report_lib.proofs.Printing.{columns-refused, columns-listed}
use Rattle.report_lib.proofs.report_held.Goals as goal

pub write_refusal-requires : goal.write_refusal-requires
write_refusal-requires c = refusal-room _ _ c.args.out.now c.requires.room

pub returns-in-Err : goal.returns-in-Err
returns-in-Err c = columns-refused _ (compressed _ _ _) (storage_of _ _ (compressed _ _ _) (compressed _ _ _) _) _ _ _ c.requires _ _ _ c.in-Err.ensures _ _ _ _ refl c.write_refusal.ensures

pub write_report-requires : goal.write_report-requires
write_report-requires c = let same = c.list_held-listed.auto.marks in report-room _ _ _ _ (omega (arith, c.requires.owners-length, c.requires.marks-length, same)) (omega (arith, c.requires.marks-length, c.requires.columns-small, same)) c.requires.room

pub returns : goal.returns
returns c = columns-listed _ (compressed _ _ _) (storage_of _ _ (compressed _ _ _) (compressed _ _ _) _) _ _ _ c.requires _ _ _ c.in_default.ensures _ _ _ refl c.summary.ensures c.write_report.ensures

-- `answer_read` meets its contract: the refusal of a reading, or the answer.
use Rattle.std.proofs.Common.{refl, sym, ap, Result, Ok}
use lib.Seq.{length-take-le}
use Rattle.refusals.specs.declared.Refusal.{Refusal}
use Rattle.sparse.specs.Matrix.{compressed}
use Rattle.text_plan.specs.Call.{reading_of}
use Rattle.text_plan.specs.declared.Stated.{Stated}
use Rattle.answer_lib.proofs.Answered.{reading-refuses, reading-answers}
use Rattle.answer_lib.proofs.certified.answer_read.Goals as goal

pub returns-in-Err : goal.returns-in-Err
returns-in-Err c =
    reading-refuses _ (compressed _ _ _) _ _ _ _ _ _ _ _ _ _
    (ap (λ (x : Result Stated Refusal). (reading_of x).outcome) c.in-Err.is) c.clear.ensures c.clear-in-Err.ensures c.clear_row.ensures

pub slice_bounds-answer_from_certificate-end : goal.slice_bounds-answer_from_certificate-end
slice_bounds-answer_from_certificate-end c = let held = rw c.in-Ok.is at c.requires in sym (length-take-le _ _ held.rows)

pub slice_bounds-answer_from_certificate-end-2 : goal.slice_bounds-answer_from_certificate-end-2
slice_bounds-answer_from_certificate-end-2 c = let held = rw c.in-Ok.is at c.requires in sym (length-take-le _ _ held.columns-fit)

pub slice_bounds-answer_from_certificate-end-3 : goal.slice_bounds-answer_from_certificate-end-3
slice_bounds-answer_from_certificate-end-3 c = let held = rw c.in-Ok.is at c.requires in sym (length-take-le _ _ held.values-fit)

pub returns : goal.returns
returns c = rw c.in-Ok.is (reading-answers (reading_of (Ok c.in-Ok.stated)) (compressed _ _ _) _ _ _ _ _ _ _ _ _ refl c.answer_from_certificate.ensures)

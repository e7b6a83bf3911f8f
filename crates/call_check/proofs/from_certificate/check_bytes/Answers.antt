-- `check_bytes` meets its contract: the tests, then the judge of the set that stands in the certificate.
use Rattle.std.proofs.Common.{◌≡◌, length, sym, ap, ◌∙◌}
use Rattle.lists.specs.Filled.{zeros}
use Rattle.lists.proofs.Filled.{length-zeros}
use Rattle.refusals.proofs.Results.{stops, goes_on}
use Rattle.pluq.specs.Judge.{judge}
use Rattle.certificate.proofs.Passed.{headed, passed-sized}
use Rattle.call_check.specs.Calls.{certificate_outcome, check_certificate_of}
use Rattle.call_check.proofs.Outcomes.{checks}
use Rattle.call_check.proofs.Tested.{checkable, certificate-good}
use Rattle.call_check.proofs.from_certificate.check_bytes.Goals as goal

pub returns-in_err-certificate_outcome : goal.returns-in_err-certificate_outcome
unfolding check_certificate_of
returns-in_err-certificate_outcome c =
    let wide : length c.clear_row.new.row ≡ length c.args.work.now = ap length c.clear_row.ensures ∙ length-zeros (length c.args.work.now) in
    checks _ _ _ _ (stops _ _ _ _ c.from_residual.ensures.1 (c.in_err-certificate_outcome.ensures ∙ ap (certificate_outcome _ _ _ _ _) wide)) c.clear_row.ensures

pub set_of_certificate-set-requires : goal.set_of_certificate-set-requires
set_of_certificate-set-requires c = (headed _ _ _ _ (certificate-good _ _ _ _ _ _ (sym c.in_ok-certificate_outcome.ensures)).1).long

pub check-requires : goal.check-requires
check-requires c =
    let wide : length c.clear_row.new.row ≡ length c.args.work.now = ap length c.clear_row.ensures ∙ length-zeros (length c.args.work.now) in
    let (g, h, w) = certificate-good _ _ _ _ _ _ (sym c.in_ok-certificate_outcome.ensures) in
    rw c.stored-plan.ensures (rw c.set_of_certificate-set.ensures
    (checkable _ _ _ _ _ _ g (passed-sized _ _ _ _ h) w (c.clear_row.ensures ∙ ap zeros (sym wide))))

pub returns : goal.returns
unfolding check_certificate_of
returns c =
    let wide : length c.clear_row.new.row ≡ length c.args.work.now = ap length c.clear_row.ensures ∙ length-zeros (length c.args.work.now) in
    checks _ _ _ _
    (goes_on _ _ _ (c.in_ok-certificate_outcome.ensures ∙ ap (certificate_outcome _ _ _ _ _) wide)
    (c.check.ensures.0 ∙ (λ j. judge c.args.q.p c.args.n c.args.m (c.stored-plan.ensures j) (c.set_of_certificate-set.ensures j))))
    (c.check.ensures.1 ∙ c.clear_row.ensures)

-- `answer_from_certificate` meets its contract: each way out is a law of `Ways`.
use Rattle.std.proofs.Common.{refl}
use Rattle.certificate.specs.Reading.{set_of_certificate}
use Rattle.certificate.proofs.Passed.{headed}
use Rattle.call_check.proofs.Checked.{header-passed, certificate-checked}
use Rattle.call_answer.specs.Calls.{answer_certificate_of}
use Rattle.call_answer.proofs.Ways.{refuses, answers, check-passed, ready}
use Rattle.call_answer.proofs.from_certificate.answer_from_certificate.Goals as goal

pub returns-in-Err : goal.returns-in-Err
unfolding answer_certificate_of
returns-in-Err c = refuses _ _ _ _ _ _ _ _ _ _ _ c.in-Err.ensures _ _ _ _ refl c.clear.ensures c.clear-in-Err.ensures

pub answer_parts-requires : goal.answer_parts-requires
answer_parts-requires c =
    record {
      long = (headed c.args.p _ _ _ (header-passed _ _ _ _ _ _ (check-passed _ _ _ _ (set_of_certificate c.args.n c.args.m c.args.cert.now) _ _ _ _ _ _ c.in_default.ensures refl))).long;
      ready = ready _ _ _ _ _ _ _ _ _ _ _ c.in_default.ensures refl _ (certificate-checked _ _ _ _ _ _);
    }

pub returns : goal.returns
unfolding answer_certificate_of
returns c =
    answers _ _ _ _ _ _ _ _ _ _ _ c.in_default.ensures refl _ _ _ c.answer_parts.auto.x c.answer_parts.auto.z c.answer_parts.auto.work _ _ refl c.answer_parts.ensures

-- `settings_tested` meets its contract: each way out is a law of `Ways`.
use Rattle.certificate.specs.Reading.{set_of_certificate}
use Rattle.call_kernel.specs.Calls.{kernel_certificate_of}
use Rattle.call_kernel.proofs.Ways.{parted, parts-ready, refuses, gives}
use Rattle.call_kernel.proofs.from_certificate.settings_tested.Goals as goal

pub returns-in-Err : goal.returns-in-Err
unfolding kernel_certificate_of
returns-in-Err c = refuses _ _ _ _ _ _ _ _ _ c.in-Err.ensures _ c.clear.ensures

pub settings_of_parts-requires : goal.settings_of_parts-requires
settings_of_parts-requires c =
    let h = c.in_default.ensures in
    let (passed, long) = parted _ c.args.q.p _ (set_of_certificate c.args.n c.args.m c.args.cert.now) _ _ _ h in
    parts-ready _ _ _ _ _ _ passed _ _ long h.cleared

pub returns : goal.returns
unfolding kernel_certificate_of
returns c = gives _ _ _ _ _ _ _ c.in_default.ensures _ _ c.settings_of_parts.auto.basis c.settings_of_parts.auto.work c.settings_of_parts.ensures

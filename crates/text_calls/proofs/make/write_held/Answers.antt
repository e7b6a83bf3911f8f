-- `write_held` meets its contract. Assumes nothing.
use mathlib.Core.Path.{sym}
use lib.Seq.{length-take-le}
use Rattle.std.proofs.Common.{◌∙◌}
use Rattle.refusals.proofs.Results.{left}
use Rattle.text_calls.proofs.make.write_held.Goals as goal

pub slice_bounds-write_certificate-end : goal.slice_bounds-write_certificate-end
slice_bounds-write_certificate-end c = sym (length-take-le _ _ c.requires.plan.rows)

pub slice_bounds-write_certificate-end-2 : goal.slice_bounds-write_certificate-end-2
slice_bounds-write_certificate-end-2 c = sym (length-take-le _ _ c.requires.plan.columns-fit)

pub slice_bounds-write_certificate-end-3 : goal.slice_bounds-write_certificate-end-3
slice_bounds-write_certificate-end-3 c = sym (length-take-le _ _ c.requires.plan.values-fit)

pub slice_bounds-write_certificate-end-4 : goal.slice_bounds-write_certificate-end-4
slice_bounds-write_certificate-end-4 c = sym (length-take-le _ _ c.requires.R-fits)

pub slice_bounds-write_certificate-end-5 : goal.slice_bounds-write_certificate-end-5
slice_bounds-write_certificate-end-5 c = sym (length-take-le _ _ c.requires.C-fits)

pub slice_bounds-write_certificate-end-6 : goal.slice_bounds-write_certificate-end-6
slice_bounds-write_certificate-end-6 c = sym (length-take-le _ _ c.requires.L-starts)

pub slice_bounds-write_certificate-end-7 : goal.slice_bounds-write_certificate-end-7
slice_bounds-write_certificate-end-7 c = sym (length-take-le _ _ c.requires.L-columns)

pub slice_bounds-write_certificate-end-8 : goal.slice_bounds-write_certificate-end-8
slice_bounds-write_certificate-end-8 c = sym (length-take-le _ _ c.requires.L-values)

pub slice_bounds-write_certificate-end-9 : goal.slice_bounds-write_certificate-end-9
slice_bounds-write_certificate-end-9 c = sym (length-take-le _ _ c.requires.U-starts)

pub slice_bounds-write_certificate-end-10 : goal.slice_bounds-write_certificate-end-10
slice_bounds-write_certificate-end-10 c = sym (length-take-le _ _ c.requires.U-columns)

pub slice_bounds-write_certificate-end-11 : goal.slice_bounds-write_certificate-end-11
slice_bounds-write_certificate-end-11 c = sym (length-take-le _ _ c.requires.U-values)

pub returns-in_err-write_certificate : goal.returns-in_err-write_certificate
returns-in_err-write_certificate c =
    let x = c.in_err-write_certificate.ensures in
    record { outcome = left _ _ c.from_residual.ensures.1 ∙ x.outcome; buffer = x.buffer }

pub returns : goal.returns
returns c = let x = c.in_ok-write_certificate.ensures in record { outcome = x.outcome; buffer = x.buffer }

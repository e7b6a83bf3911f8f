-- `check_held` meets its contract. Assumes nothing.
use mathlib.Core.Path.{sym}
use lib.Seq.{length-take-le}
use Rattle.text_calls.proofs.check.check_held.Goals as goal

pub slice_bounds-check_certificate-end : goal.slice_bounds-check_certificate-end
slice_bounds-check_certificate-end c = sym (length-take-le _ _ c.requires.rows)

pub slice_bounds-check_certificate-end-2 : goal.slice_bounds-check_certificate-end-2
slice_bounds-check_certificate-end-2 c = sym (length-take-le _ _ c.requires.columns-fit)

pub slice_bounds-check_certificate-end-3 : goal.slice_bounds-check_certificate-end-3
slice_bounds-check_certificate-end-3 c = sym (length-take-le _ _ c.requires.values-fit)

-- `report_text` meets its contract. Assumes nothing.
use mathlib.Core.Path.{sym}
use lib.Seq.{length-take-le}
use Rattle.text_calls.proofs.Reporting.{printed-inside, reports-text}
use Rattle.text_calls.proofs.report.report_text.Goals as goal

pub slice_bounds-printed-end : goal.slice_bounds-printed-end
slice_bounds-printed-end c = printed-inside _ _ _ _ _ _ c.report_all-outcome.ensures

pub slice_bounds-deliver-end : goal.slice_bounds-deliver-end
slice_bounds-deliver-end c = sym (length-take-le _ _ (printed-inside _ _ _ _ _ _ c.report_all-outcome.ensures))

pub returns : goal.returns
returns c = reports-text _ _ _ _ _ _ c.report_all-outcome.ensures _ _ _ _ c.pack.ensures c.deliver.ensures

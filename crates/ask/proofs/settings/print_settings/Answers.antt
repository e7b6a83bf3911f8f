-- `print_settings` is safe: the first line lies in its buffer. Assumes nothing.
use mathlib.Core.Path.{sym}
use lib.Seq.{length-take-le}
use Rattle.ask.proofs.Printing.{line-inside}
use Rattle.ask.proofs.settings.print_settings.Goals as goal

pub slice_bounds-out-end : goal.slice_bounds-out-end
slice_bounds-out-end g c = let a = c.begin-g in line-inside _ _ a.result.size _ a.auto.out a.ensures.first

pub slice_bounds-print-end : goal.slice_bounds-print-end
slice_bounds-print-end g c = let a = c.begin-g in sym (length-take-le _ _ (line-inside _ _ a.result.size _ a.auto.out a.ensures.first))

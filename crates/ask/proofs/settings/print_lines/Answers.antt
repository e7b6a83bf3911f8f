-- `print_lines` meets its contract; the loop keeps the length of the buffer. Assumes nothing.
use mathlib.Core.Path.{sym}
use lib.Seq.{length-take-le}
use Rattle.ask.proofs.Printing.{line-inside}
use Rattle.ask.proofs.settings.print_lines.Goals as goal

pub slice_bounds-print-end : goal.slice_bounds-print-end
slice_bounds-print-end g c = let a = c.setting_line-size in line-inside _ _ _ _ a.auto.out a.ensures

pub slice_bounds-print-end-in-loop-c : goal.slice_bounds-print-end-in-loop-c
slice_bounds-print-end-in-loop-c g c = let a = c.setting_line-size in sym (length-take-le _ _ (line-inside _ _ _ _ a.auto.out a.ensures))

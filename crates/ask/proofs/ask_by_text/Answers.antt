-- `ask_by_text` is safe: the line lies in its buffer. Assumes nothing.
use mathlib.Core.Path.{sym}
use lib.Seq.{length-take-le}
use Rattle.ask.proofs.Printing.{line-inside}
use Rattle.ask.proofs.ask_by_text.Goals as goal

pub slice_bounds-out-end : goal.slice_bounds-out-end
slice_bounds-out-end g c = let a = c.write_text_line-size in line-inside _ _ _ _ a.auto.out a.ensures

pub slice_bounds-print_only-end : goal.slice_bounds-print_only-end
slice_bounds-print_only-end g c = let a = c.write_text_line-size in sym (length-take-le _ _ (line-inside _ _ _ _ a.auto.out a.ensures))

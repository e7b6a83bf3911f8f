-- `put_open_lines` meets its contract; the loop keeps that storing the lines that remain completes the buffer. Assumes nothing.
use lib.ListN.{length}
use Rattle.byte_buffer.proofs.Remaining.{Turns}
use Rattle.print_text.proofs.Stepping.{lines_from}
use Rattle.print_text.proofs.lines.put_open_lines.Given as goal

abbrev pub invariant-loop-j : goal.invariant-loop-j
invariant-loop-j l = Turns (length l.cells) (lines_from l.owners l.cells) l.initial.out l.at l.out l.next l.j

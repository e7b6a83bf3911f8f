-- `put_values` meets its contract; the loop keeps that storing the values that remain completes the buffer. Assumes nothing.
use lib.ListN.{length}
use Rattle.byte_buffer.proofs.Remaining.{Turns}
use Rattle.print_text.proofs.Stepping.{values_from}
use Rattle.print_text.proofs.values.put_values.Given as goal

abbrev pub invariant-loop-value : goal.invariant-loop-value
invariant-loop-value l = Turns (length l.values) (values_from l.values) l.initial.out l.at l.out l.next l.value-index

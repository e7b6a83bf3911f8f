-- `put_words` meets its contract; the loop keeps that storing what remains of the list completes the buffer. Assumes nothing.
use lib.ListN.{length}
use Rattle.byte_buffer.proofs.Remaining.{Turns}
use Rattle.certificate.proofs.Storing.{bytes_from}
use Rattle.certificate.proofs.writer.put_words.Given as goal

abbrev pub invariant-loop-x : goal.invariant-loop-x
invariant-loop-x l = Turns (length l.list) (bytes_from l.list) l.initial.buffer l.at l.buffer l.next l.x-index

-- `digit_run` meets its contract. The invariant: the piece from `from` on is the digits read and the piece from `end` on. Assumes nothing.
use lib.ListN.{length}
use Rattle.text_fields.specs.Runs.{Limit}
use Rattle.text_fields.proofs.RunLaws.{Reading}
use Rattle.text_fields.proofs.runs.digit_run.Given as goal

abbrev pub invariant-loop-end : goal.invariant-loop-end
invariant-loop-end l = Limit (length l.line) l.from l.stop × Reading l.line l.from l.value l.end

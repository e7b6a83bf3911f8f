-- `put_open_lines` meets its contract; the loop keeps that storing the lines that remain completes the buffer. Assumes nothing.
use native.Mathlib.Omega.{arith}
use lib.ListN.{get_or}
use Rattle.byte_buffer.proofs.Remaining.{turns-start, turn-room, turns-after, turns-end}
use Rattle.print_text.specs.Lines.{word_line}
use Rattle.print_text.proofs.Stepping.{lines_step, lines_end}
use Rattle.print_text.proofs.lines.put_open_lines.Goals as goal

pub loop-j-init : goal.loop-j-init
loop-j-init c = turns-start _ _ _ _ c.requires.room

pub put_word_line-next-requires : goal.put_word_line-next-requires
put_word_line-next-requires c =
    let j = c.loop-j.j in record {
      column = omega (arith, c.requires.columns, c.loop-j-test.true);
      room = turn-room c.loop-j.invariant (word_line j (get_or c.args.owners.now j 0) (get_or c.args.cells.now j 0)) (lines_step _ _ _ c.loop-j-test.true);
    }

pub loop-j-preserved : goal.loop-j-preserved
loop-j-preserved c = turns-after c.loop-j.invariant c.loop-j-test.true (lines_step _ _ _ c.loop-j-test.true) c.put_word_line-next.ensures

pub returns : goal.returns
returns c = turns-end c.loop-j.invariant (lines_end _ _ _ c.loop-j-test.false)

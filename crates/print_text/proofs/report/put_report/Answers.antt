-- `put_report` meets its contract: the lines are stored one after another.
use Rattle.std.proofs.Common.{ℕ, List, [], ◌∷◌, arith}
use Rattle.byte_buffer.proofs.Remaining.{Remains, remains-all, room_for, remains-after, stored-all}
use Rattle.print_text.specs.declared.lines.Summary.{Summary}
use Rattle.print_text.specs.Lines.{sizes_line, rank_line, open_lines, totals_line}
use Rattle.print_text.specs.Needs.{Printable}
use Rattle.print_text.specs.Report.{report_text}
use Rattle.print_text.proofs.report.put_report.Goals as goal

at_first : (s : Summary) (owners cells out : List ℕ) → Printable s owners cells out
    → Remains out 0 (report_text s owners cells) out 0 (sizes_line s ∷ rank_line s ∷ open_lines 0 owners cells ∷ totals_line cells ∷ [])
unfolding report_text
at_first s owners cells out h = remains-all _ _ _ (omega (arith, h.room))

pub put_sizes_line-after_sizes-requires : goal.put_sizes_line-after_sizes-requires
put_sizes_line-after_sizes-requires c = room_for (at_first _ _ _ _ c.requires)

pub put_rank_line-after_rank-requires : goal.put_rank_line-after_rank-requires
put_rank_line-after_rank-requires c = room_for (remains-after (at_first _ _ _ _ c.requires) c.put_sizes_line-after_sizes.ensures)

pub put_open_lines-after_open-requires : goal.put_open_lines-after_open-requires
put_open_lines-after_open-requires c =
    record {
      columns = c.requires.columns;
      owned = c.requires.owned;
      room = room_for (remains-after (remains-after (at_first _ _ _ _ c.requires) c.put_sizes_line-after_sizes.ensures) c.put_rank_line-after_rank.ensures);
    }

pub put_totals_line-requires : goal.put_totals_line-requires
put_totals_line-requires c =
    record {
      columns = c.requires.columns;
      room = room_for
          (remains-after (remains-after (remains-after (at_first _ _ _ _ c.requires) c.put_sizes_line-after_sizes.ensures) c.put_rank_line-after_rank.ensures) c.put_open_lines-after_open.ensures);
    }

pub returns : goal.returns
returns c =
    stored-all
    (remains-after
    (remains-after (remains-after (remains-after (at_first _ _ _ _ c.requires) c.put_sizes_line-after_sizes.ensures) c.put_rank_line-after_rank.ensures) c.put_open_lines-after_open.ensures)
    c.put_totals_line.ensures)

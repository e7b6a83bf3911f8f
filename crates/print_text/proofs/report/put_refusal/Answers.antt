-- `put_refusal` meets its contract: three runs, one after another.
use Rattle.std.proofs.Common.{ℕ, ◌≤◌, List, [], ◌∷◌, length, arith}
use Rattle.byte_buffer.proofs.Remaining.{Remains, remains-all, room_for, remains-after, stored-all}
use Rattle.print_text.specs.Labels.{refused_label, at_label, line_feed}
use Rattle.print_text.specs.Lines.{labelled}
use Rattle.print_text.specs.Report.{refusal_text}
use Rattle.print_text.proofs.report.put_refusal.Goals as goal

at_first : (k d : ℕ) (out : List ℕ) → length (refusal_text k d) ≤ length out → Remains out 0 (refusal_text k d) out 0 (labelled refused_label k ∷ labelled at_label d ∷ line_feed ∷ [])
unfolding refusal_text
at_first k d out h = remains-all _ _ _ (omega arith)

pub put_labelled-after_number-requires : goal.put_labelled-after_number-requires
put_labelled-after_number-requires c = room_for (at_first _ _ _ c.requires)

pub put_labelled-after_detail-requires : goal.put_labelled-after_detail-requires
put_labelled-after_detail-requires c = room_for (remains-after (at_first _ _ _ c.requires) c.put_labelled-after_number.ensures)

pub put_bytes-requires : goal.put_bytes-requires
put_bytes-requires c = room_for (remains-after (remains-after (at_first _ _ _ c.requires) c.put_labelled-after_number.ensures) c.put_labelled-after_detail.ensures)

pub returns : goal.returns
returns c = stored-all (remains-after (remains-after (remains-after (at_first _ _ _ c.requires) c.put_labelled-after_number.ensures) c.put_labelled-after_detail.ensures) c.put_bytes.ensures)

-- `write_refusal` meets its contract: the buffer is cleared, then the line is stored at its front.
use Rattle.std.proofs.Common.{◌≤◌, ℕ, length, sym, subst}
use Rattle.byte_buffer.specs.Fills.{Fills}
use Rattle.byte_buffer.proofs.Storing.{stored-fills}
use Rattle.print_text.specs.Report.{refusal_text}
use Rattle.print_text.proofs.report.write_refusal.Goals as goal

pub returns : goal.returns
returns c =
    let fits : length (refusal_text c.from.result c.args.refusal.detail) ≤ length c.args.out.now =
    subst (λ (k : ℕ). length (refusal_text k c.args.refusal.detail) ≤ length c.args.out.now) (sym c.from.ensures) c.requires in
    subst (λ (k : ℕ). Fills c.args.out.now c.put_refusal.new.out c.put_refusal.result (refusal_text k c.args.refusal.detail)) c.from.ensures
    (stored-fills fits c.clear_bytes.ensures c.put_refusal.ensures)

-- `write_report` meets its contract: the buffer is cleared, then the report is stored at its front. Assumes nothing.
use Rattle.byte_buffer.proofs.Storing.{stored-fills}
use Rattle.print_text.proofs.report.write_report.Goals as goal

pub returns : goal.returns
returns c = stored-fills c.requires.room c.clear_bytes.ensures c.put_report.ensures

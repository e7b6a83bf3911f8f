-- `write_values` meets its contract: the buffer is cleared, then the line is stored at its front. Assumes nothing.
use Rattle.byte_buffer.proofs.Storing.{stored-fills}
use Rattle.print_text.proofs.values.write_values.Goals as goal

pub returns : goal.returns
returns c = stored-fills c.requires c.clear_bytes.ensures c.put_values_line.ensures

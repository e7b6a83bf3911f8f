-- `put_bytes` meets its contract. Assumes nothing.
use Rattle.std.proofs.Common.{arith}
use Rattle.lists.proofs.Stored.{stored-part}
use Rattle.byte_buffer.proofs.put_bytes.Goals as goal

pub returns : goal.returns
returns c = stored-part _ _ _ _ _ c.requires (omega arith) c.copy_from_slice.ensures.after

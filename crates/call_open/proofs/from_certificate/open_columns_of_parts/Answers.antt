-- `open_columns_of_parts` meets its contract: the value that the bytes make is the set that they hold.
use Rattle.call_open.proofs.Ways.{ready_by, columns_of}
use Rattle.call_open.proofs.from_certificate.open_columns_of_parts.Goals as goal

pub open_columns-requires : goal.open_columns-requires
open_columns-requires c = ready_by _ _ _ _ _ c.set_of_certificate-set.ensures c.requires.ready

pub returns : goal.returns
returns c = columns_of _ _ _ _ _ _ c.set_of_certificate-set.ensures c.open_columns.auto.marks c.open_columns.ensures

-- `put_header` meets its contract: three runs, one after another. Assumes nothing.
use Rattle.certificate.specs.Layout.{mark, version}
use Rattle.lists.proofs.Stored.{stored-then}
use Rattle.certificate.proofs.writer.put_header.Goals as goal

pub returns : goal.returns
unfolding mark version
returns c = stored-then c.put_bytes-after_mark.ensures (stored-then c.put_bytes-after_version.ensures c.put_words.ensures)

-- `put_word` meets its contract. Assumes nothing.
use Rattle.std.proofs.Common.{◌∙◌, [], ◌∷◌, arith}
use Rattle.lists.proofs.Stored.{stored-part}
use Rattle.certificate.specs.Layout.{bytes}
use Rattle.certificate.proofs.writer.put_word.Goals as goal

pub returns : goal.returns
unfolding bytes
returns c = (stored-part c.args.buffer.now (bytes (c.args.x ∷ [])) _ c.args.at _ c.requires (omega arith) (c.copy_from_slice.ensures.after ∙ c.to_le_bytes.ensures)).now-is

-- `Held::count` meets its contract.
use Rattle.std.proofs.Common.{sym}
use Rattle.sparse.proofs.WordLaws.{length-words}
use Rattle.sparse.proofs.words.HeldNumbers.count.Goals as goal

pub returns : goal.returns
returns c = sym (length-words c.args.self.now.bytes.now)

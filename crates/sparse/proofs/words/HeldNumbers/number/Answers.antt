-- `Held::number` meets its contract.
use Rattle.std.proofs.Common.{arith}
use Rattle.sparse.proofs.WordLaws.{length-words}
use Rattle.sparse.proofs.words.HeldNumbers.number.Goals as goal

pub word_at-requires : goal.word_at-requires
word_at-requires c = omega (arith, length-words c.args.self.now.bytes.now, c.requires)

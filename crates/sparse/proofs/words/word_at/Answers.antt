-- `word_at` meets its contract. Assumes nothing.
use native.Mathlib.Omega.{arith}
use Rattle.sparse.proofs.WordLaws.{get_d_words}
use Rattle.sparse.proofs.words.word_at.Goals as goal

pub returns : goal.returns
returns c = omega (arith, get_d_words c.args.bytes.now c.args.k c.requires)

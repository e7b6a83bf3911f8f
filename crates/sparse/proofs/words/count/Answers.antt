-- `count` meets its contract. Assumes nothing.
use mathlib.Core.Path.{sym}
use Rattle.sparse.proofs.WordLaws.{length-view}
use Rattle.sparse.proofs.words.count.Goals as goal

pub returns : goal.returns
returns c = sym (length-view c.args.list.now c.args.bytes.now)

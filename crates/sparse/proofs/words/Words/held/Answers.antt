-- `Words::held` meets its contract: no number is stored.
use Rattle.std.proofs.Common.{refl, []}
use Rattle.sparse.proofs.WordLaws.{view-bytes}
use Rattle.sparse.proofs.words.Words.held.Goals as goal

pub returns : goal.returns
returns c = view-bytes [] c.args.bytes.now refl

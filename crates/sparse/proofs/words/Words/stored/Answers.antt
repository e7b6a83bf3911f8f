-- `Words::stored` meets its contract: no number is held by bytes.
use Rattle.sparse.proofs.WordLaws.{view-stored}
use Rattle.std.proofs.Common.{refl, []}
use Rattle.sparse.proofs.words.Words.stored.Goals as goal

pub returns : goal.returns
returns c = view-stored c.args.list.now [] refl

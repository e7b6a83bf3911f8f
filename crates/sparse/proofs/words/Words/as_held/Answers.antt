-- `Words::as_held` meets its contract.
use Rattle.std.proofs.Common.{sym, ◌∙◌}
use Rattle.sparse.proofs.WordLaws.{view-bytes}
use Rattle.sparse.proofs.words.Words.as_held.Goals as goal

pub returns-then-self-eq0 : goal.returns-then-self-eq0
returns-then-self-eq0 c = sym (view-bytes c.self.inside.list.now c.self.inside.bytes.now c.if-self-eq0.true) ∙ c.self.view_is

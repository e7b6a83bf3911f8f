-- `Words::as_list` meets its contract.
use Rattle.std.proofs.Common.{sym, ◌∙◌}
use Rattle.sparse.proofs.WordLaws.{view-stored}
use Rattle.sparse.proofs.words.Words.as_list.Goals as goal

pub returns-then-self-eq0 : goal.returns-then-self-eq0
returns-then-self-eq0 c = sym (view-stored c.self.inside.list.now c.self.inside.bytes.now c.if-self-eq0.true) ∙ c.self.view_is

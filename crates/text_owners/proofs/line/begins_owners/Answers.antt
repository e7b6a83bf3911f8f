-- `begins_owners` meets its contract. Assumes nothing.
use mathlib.Core.Path.{ap, ◌∙◌}
use Rattle.text_owners.specs.Owners.{is_owners_word}
use Rattle.text_owners.proofs.line.begins_owners.Goals as goal

pub returns : goal.returns
returns c = c.is_owners_word.ensures ∙ ap is_owners_word c.piece.ensures

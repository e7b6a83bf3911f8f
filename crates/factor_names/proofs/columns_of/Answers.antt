-- `columns_of` meets its contract: the part of the columns between two starts. Assumes nothing.
use mathlib.Core.Path.{refl, ◌∙◌}
use Rattle.factor_names.proofs.columns_of.Goals as goal

pub returns : goal.returns
returns c = c.part.ensures ∙ rw (c.index-start.ensures, c.index-end.ensures) refl

-- `sight_of` meets its contract: the line picks a case of `sight`. Assumes nothing.
use mathlib.Core.Path.{sym, ap}
use Rattle.text_judge.specs.Sight.{sight}
use Rattle.text_judge.proofs.sight.sight_of.Goals as goal

pub returns-in-None : goal.returns-in-None
unfolding sight
returns-in-None c = sym (ap (sight _ _) c.in-None.is)

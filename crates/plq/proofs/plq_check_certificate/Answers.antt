-- `plq_check_certificate` meets its contract. Assumes nothing.
use mathlib.Core.Path.{ap, ◌∙◌}
use Rattle.text_calls.specs.Calls.{packed}
use Rattle.plq.proofs.plq_check_certificate.Goals as goal

pub returns : goal.returns
returns c = c.pack.ensures ∙ ap packed c.check_text.ensures

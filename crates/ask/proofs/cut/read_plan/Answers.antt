-- `read_plan` meets its contract: the lists that it lends have the largest lengths.
use Rattle.std.proofs.Common.{ap}
use Rattle.stages.specs.Stages.{read_text}
use Rattle.text_plan.specs.Call.{Reading}
use Rattle.ask.proofs.cut.read_plan.Goals as goal

pub returns : goal.returns
unfolding read_text
returns c = ap (λ (r : Reading). r.outcome) c.read.ensures.plan.result-is

-- `from_text` meets its contract. Assumes nothing.
use Rattle.ask.proofs.Cutting.{no-question, the-question}
use Rattle.ask.proofs.question.from_text.Goals as goal

pub returns-then-size-lt2 : goal.returns-then-size-lt2
returns-then-size-lt2 c = no-question _ c.if-size-lt2.true _

pub returns : goal.returns
returns c = the-question _ c.if-size-lt2.false _ _ _ c.values.ensures

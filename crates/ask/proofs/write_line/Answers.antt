-- `write_line` meets its contract, by the verb. Assumes nothing.
use mathlib.Core.Path.{sym, subst}
use mathlib.Core.Bool.{Bool}
use Rattle.byte_buffer.specs.Fills.{Fills}
use Rattle.ask.specs.Verb.{line_for}
use Rattle.ask.proofs.write_line.Goals as goal

pub returns-then-words : goal.returns-then-words
returns-then-words c = let x = c.words in subst (λ (t : Bool). Fills c.args.out.now x.new.out x.result (line_for t c.args.plan.now c.args.y.now)) (sym c.if-words.true) x.ensures.answer

pub returns-else-words : goal.returns-else-words
returns-else-words c = let x = c.ask in subst (λ (t : Bool). Fills c.args.out.now x.new.out x.result (line_for t c.args.plan.now c.args.y.now)) (sym c.if-words.false) x.ensures.answer

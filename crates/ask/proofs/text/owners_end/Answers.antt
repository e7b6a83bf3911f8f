-- `owners_end` meets its contract: each way out is a law of `Ends`. Assumes nothing.
use mathlib.Core.Path.{sym, ◌∙◌}
use lib.ListN.{length-drop}
use Rattle.ask.proofs.Ends.{no-owners, to_the_end, with-line-feed}
use Rattle.ask.proofs.text.owners_end.Goals as goal

pub returns-then-not-begins_owners : goal.returns-then-not-begins_owners
returns-then-not-begins_owners c = no-owners _ _ c.piece-line.ensures (sym c.if-not-begins_owners.true ∙ c.begins_owners.ensures)

pub returns-then-size-text : goal.returns-then-size-text
returns-then-size-text c = to_the_end _ _ c.piece-line.ensures (sym c.if-not-begins_owners.false ∙ c.begins_owners.ensures) (c.if-size-text.true ∙ sym (length-drop c.args.at c.args.text.now))

pub returns : goal.returns
returns c = with-line-feed _ _ c.piece-line.ensures (sym c.if-not-begins_owners.false ∙ c.begins_owners.ensures) (λ q. c.if-size-text.false (q ∙ length-drop c.args.at c.args.text.now))

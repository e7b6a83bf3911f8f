-- `last_line` meets its contract: one more than the line feeds that were counted. Assumes nothing.
use mathlib.Core.Path.{ap, ◌∙◌}
use Prim.Native.Nat.{ℕ, ◌+◌}
use Rattle.ask.proofs.CutOff.{feeds-counted}
use Rattle.ask.proofs.cut.last_line.Goals as goal

pub returns : goal.returns
returns c = ap (λ (n : ℕ). n + 1) c.line_feeds.ensures ∙ feeds-counted c.args.text.now

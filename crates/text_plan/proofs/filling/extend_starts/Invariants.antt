-- `extend_starts` meets its contract. The invariant: the starts are those of the first k rows. Assumes nothing.
use mathlib.Core.Path.{◌≡◌}
use mathlib.Core.List.{List}
use lib.ListN.{length}
use Rattle.text_opening.specs.Reading.{Entry}
use Rattle.text_plan.specs.Stored.{RowsWithin, starts_of}
use Rattle.text_plan.proofs.filling.extend_starts.Given as goal

abbrev pub invariant-loop-k : goal.invariant-loop-k
invariant-loop-k l = (es : List Entry) → RowsWithin l.from es → l.count ≡ length es → l.initial.starts ≡ starts_of l.from es → l.starts ≡ starts_of l.k es

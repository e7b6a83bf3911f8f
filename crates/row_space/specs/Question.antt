-- The test of a question: m residues (refusal 15).
--   question_outcome p y    15 at the first value that is p or more
use Rattle.std.specs.Prelude.{ℕ, List, leb, ltb, length, get_or}
use Rattle.lists.specs.Tests.{first}
use Rattle.refusals.specs.Table.{question_too_large}
use Rattle.refusals.specs.Refusals.{unless}
use Rattle.refusals.specs.Outcome.{Outcome}

unfoldable pub question_outcome : ℕ → List ℕ → Outcome
question_outcome p y =
    unless (leb (length y) (first (length y) (λ j. ltb (get_or y j 0) p))) question_too_large (first (length y) (λ j. ltb (get_or y j 0) p))

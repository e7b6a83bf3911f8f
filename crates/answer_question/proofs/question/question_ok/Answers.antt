-- `question_ok` meets its contract: what it finds is the first value that is p or more.
use Rattle.std.proofs.Common.{◌≡◌, ℕ, ◌≤◌, ◌<◌, List, length, get_or, refl, arith}
use borrow.Author.Tests.{lt-ltb, le-ltb, le-leb, lt-leb}
use Rattle.lists.proofs.Tests.{first-all, first-fails}
use Rattle.refusals.specs.Outcome.{Passed, Refused}
use Rattle.refusals.specs.Table.{question_too_large}
use Rattle.row_space.specs.Question.{question_outcome}
use Rattle.answer_question.proofs.question.question_ok.Goals as goal

refused-at : (p : ℕ) (y : List ℕ) (j : ℕ) → j < length y → ((i : ℕ) → i < j → get_or y i 0 < p) → p ≤ get_or y j 0 → Refused question_too_large j ≡ question_outcome p y
unfolding question_outcome
refused-at p y j inside before here = rw (first-fails (length y) _ j inside (λ i h. lt-ltb _ p (before i h)) (le-ltb _ p here), lt-leb (length y) j inside) refl

passed : (p : ℕ) (y : List ℕ) → ((i : ℕ) → i < length y → get_or y i 0 < p) → Passed ≡ question_outcome p y
unfolding question_outcome
passed p y small = rw (first-all (length y) _ (λ i h. lt-ltb _ p (small i h)), le-leb (length y) (length y) (omega arith)) refl

pub returns-then-p-v : goal.returns-then-p-v
returns-then-p-v c = refused-at _ _ _ c.loop-j-test.true c.loop-j.invariant c.if-p-v.true

pub returns : goal.returns
returns c = passed _ _ (λ i h. c.loop-j.invariant i (omega (arith, c.loop-j-test.false)))

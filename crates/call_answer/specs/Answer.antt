-- The answer to a question.
--   Answer    refused by a number of document 01's table with its detail, open, or closed
use Rattle.std.specs.Prelude.{ℕ}

pub data Answer : Type 0 where
  Refused : ℕ → ℕ → Answer
  Open : Answer
  Closed : Answer

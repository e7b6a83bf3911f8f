-- The answer to slot values.
--   Solution    refused by a number of document 01's table with its detail, solved by a setting of the words, or a contradiction
use Rattle.std.specs.Prelude.{ℕ}

pub data Solution : Type 0 where
  Refused : ℕ → ℕ → Solution
  Solved : Solution
  Contradiction : Solution

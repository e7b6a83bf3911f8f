-- The outcome of a call's tests, as numbers.
--   Outcome          passed, or refused by a number of the table with its detail
--   outcome_of r     the outcome that a result is
use Rattle.std.specs.Prelude.{ℕ, Result, Ok, Err}
use Rattle.refusals.specs.declared.Refusal.{Refusal}
use Rattle.refusals.specs.Faults.{number}

pub data Outcome : Type 0 where
  Passed : Outcome
  Refused : ℕ → ℕ → Outcome

abbrev pub outcome_of : Result (Unit {0}) Refusal → Outcome
outcome_of (Ok u) = Passed
outcome_of (Err r) = Refused (number r.fault) r.detail

-- What writing returns, as numbers.
--   Written         the outcome, and the certificate's length, 0 on a refusal
--   written_of r    what a result is of these
use Rattle.std.specs.Prelude.{ℕ, Result, Ok, Err}
use Rattle.refusals.specs.declared.Refusal.{Refusal}
use Rattle.refusals.specs.Faults.{number}
use Rattle.refusals.specs.Outcome.{Outcome, Passed, Refused}

pub record Written : Type 0 where
  pub outcome : Outcome
  pub length : ℕ

abbrev pub written_of : Result ℕ Refusal → Written
written_of (Ok size) = record { outcome = Passed; length = size }
written_of (Err r) = record { outcome = Refused (number r.fault) r.detail; length = 0 }

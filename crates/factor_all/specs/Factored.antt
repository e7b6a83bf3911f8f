-- What factoring returns, as numbers.
--   Factored         the outcome, and the rank and the number of structural pivots, 0 on a refusal
--   factored_of r    what a result is of these
use Rattle.std.specs.Prelude.{ℕ, Result, Ok, Err}
use Rattle.refusals.specs.declared.Refusal.{Refusal}
use Rattle.refusals.specs.Faults.{number}
use Rattle.refusals.specs.Outcome.{Outcome, Passed, Refused}
use Rattle.factor_all.specs.declared.factor.Ranks.{Ranks}

pub record Factored : Type 0 where
  pub outcome : Outcome
  pub rank : ℕ
  pub structural : ℕ

abbrev pub factored_of : Result Ranks Refusal → Factored
factored_of (Ok r) = record { outcome = Passed; rank = r.rank; structural = r.structural }
factored_of (Err r) = record { outcome = Refused (number r.fault) r.detail; rank = 0; structural = 0 }

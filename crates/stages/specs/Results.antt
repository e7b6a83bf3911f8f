-- What the stages return, as numbers.
--   Stages          what reading returned, what factoring returned after it (0 for all where reading refused), and the entry counts of L and U, 0 on a refusal
--   stages_of r     what a result is of these
--   refusal_in s    the refusal of the stage that refused
use Rattle.std.specs.Prelude.{ℕ, Result, Ok, Err}
use Rattle.refusals.specs.declared.Refusal.{Refusal}
use Rattle.refusals.specs.Outcome.{Passed}
use Rattle.text_plan.specs.Call.{Reading, reading_of}
use Rattle.factor_all.specs.Factored.{Factored, factored_of}
use Rattle.stages.specs.declared.FactoredPlan.{FactoredPlan}
use Rattle.stages.specs.declared.Stopped.{Stopped}
use Rattle.stages.specs.declared.Stopped.TheVariants.{InReading, InFactoring}

pub record Stages : Type 0 where
  pub reading : Reading
  pub factored : Factored
  pub lower : ℕ
  pub upper : ℕ

abbrev pub stages_of : Result FactoredPlan Stopped → Stages
stages_of (Ok plan) = record { reading = reading_of (Ok plan.stated); factored = factored_of (Ok plan.ranks); lower = plan.lower; upper = plan.upper }
stages_of (Err (InReading r)) = record { reading = reading_of (Err r); factored = record { outcome = Passed; rank = 0; structural = 0 }; lower = 0; upper = 0 }
stages_of (Err (InFactoring stated r)) = record { reading = reading_of (Ok stated); factored = factored_of (Err r); lower = 0; upper = 0 }

abbrev pub refusal_in : Stopped → Refusal
refusal_in (InReading r) = r
refusal_in (InFactoring stated r) = r

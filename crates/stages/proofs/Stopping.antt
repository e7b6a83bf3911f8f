-- The refusal of the stage that refused is the first one of the stages.
use Rattle.std.specs.Prelude.{Err}
use Rattle.std.proofs.Common.{◌≡◌, refl}
use Rattle.refusals.specs.Outcome.{Refused}
use Rattle.refusals.specs.Faults.{number}
use Rattle.stages.specs.declared.Stopped.{Stopped}
use Rattle.stages.specs.declared.Stopped.TheVariants.{InReading, InFactoring}
use Rattle.stages.specs.Results.{stages_of, refusal_in}
use Rattle.stages.specs.Staged.{stages_outcome}

pub stopped-first : (s : Stopped) → Refused (number (refusal_in s).fault) (refusal_in s).detail ≡ stages_outcome (stages_of (Err s))
stopped-first (InReading r) = refl
stopped-first (InFactoring stated r) = refl

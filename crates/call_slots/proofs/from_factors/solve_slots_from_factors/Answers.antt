-- `solve_slots_from_factors` meets its contract: each way out is a law of `Ways`.
use Rattle.std.proofs.Common.{refl}
use Rattle.call_check.proofs.Checked.{factors-checked}
use Rattle.call_slots.specs.Calls.{slots_factors_of}
use Rattle.call_slots.proofs.Ways.{refuses, answers, factors-rows, ready}
use Rattle.call_slots.proofs.from_factors.solve_slots_from_factors.Goals as goal

pub returns-in-Err : goal.returns-in-Err
unfolding slots_factors_of
returns-in-Err c = refuses _ _ _ _ _ _ _ _ _ _ _ _ c.in-Err.ensures _ _ _ _ refl c.clear.ensures c.clear-in-Err.ensures

pub solve_stored-requires : goal.solve_stored-requires
solve_stored-requires c = ready _ _ _ _ _ _ _ _ _ _ _ _ c.in_default.ensures refl _ (factors-checked _ _ _ _ _ _) (factors-rows _ _ _ _ _ _)

pub returns : goal.returns
unfolding slots_factors_of
returns c =
    answers _ _ _ _ _ _ _ _ _ _ _ _ c.in_default.ensures refl _ _ _ c.solve_stored.auto.s c.solve_stored.auto.w c.solve_stored.auto.work _ _ refl c.solve_stored.ensures

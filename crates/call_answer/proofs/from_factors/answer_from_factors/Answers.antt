-- `answer_from_factors` meets its contract: each way out is a law of `Ways`.
use Rattle.std.proofs.Common.{refl}
use Rattle.call_check.proofs.Checked.{factors-checked}
use Rattle.call_answer.specs.Calls.{answer_factors_of}
use Rattle.call_answer.proofs.Ways.{refuses, answers, ready}
use Rattle.call_answer.proofs.from_factors.answer_from_factors.Goals as goal

pub returns-in-Err : goal.returns-in-Err
unfolding answer_factors_of
returns-in-Err c = refuses _ _ _ _ _ _ _ _ _ _ _ c.in-Err.ensures _ _ _ _ refl c.clear.ensures c.clear-in-Err.ensures

pub answer_stored-requires : goal.answer_stored-requires
answer_stored-requires c = ready _ _ _ _ _ _ _ _ _ _ _ c.in_default.ensures refl _ (factors-checked _ _ _ _ _ _)

pub returns : goal.returns
unfolding answer_factors_of
returns c =
    answers _ _ _ _ _ _ _ _ _ _ _ c.in_default.ensures refl _ _ _ c.answer_stored.auto.x c.answer_stored.auto.z c.answer_stored.auto.work _ _ refl c.answer_stored.ensures

-- `check_text` meets its contract: the refusal of a reading, or what checking the certificate gives.
use Rattle.std.proofs.Common.{refl, ◌∙◌}
use Rattle.sparse.specs.Matrix.{compressed}
use Rattle.refusals.proofs.Results.{left}
use Rattle.text_calls.proofs.Checking.{plan-held, text-refused, text-checked}
use Rattle.text_calls.proofs.check.check_text.Goals as goal

pub returns-in_err-stated : goal.returns-in_err-stated
returns-in_err-stated c =
    left _ _ c.from_residual.ensures.1
    ∙ text-refused _ (compressed _ _ _) (compressed _ _ _) _ c.requires _ _ refl _ c.in_err-stated.ensures _ refl

pub check_held-requires : goal.check_held-requires
check_held-requires c =
    let a = c.read.auto in
    plan-held _ (compressed _ _ _) (compressed _ _ _) _ c.requires _ _ refl _ c.in_ok-stated.ensures a.starts a.cols a.vals

pub returns : goal.returns
returns c = text-checked _ (compressed _ _ _) (compressed _ _ _) _ c.requires _ _ refl _ c.in_ok-stated.ensures _ _ refl c.check_held.ensures.outcome

-- `check_stored` meets its contract: the tests, then the judge.
use Rattle.std.proofs.Common.{◌≡◌, length, sym, ap, ◌∙◌}
use Rattle.lists.specs.Filled.{zeros}
use Rattle.lists.proofs.Filled.{length-zeros}
use Rattle.refusals.proofs.Results.{stops, goes_on}
use Rattle.pluq.specs.Judge.{judge}
use Rattle.call_check.specs.Calls.{factors_outcome, check_factors_of}
use Rattle.call_check.proofs.Outcomes.{checks}
use Rattle.call_check.proofs.Tested.{checkable, factors-good}
use Rattle.call_check.proofs.from_factors.check_stored.Goals as goal

pub returns-in_err-factors_outcome : goal.returns-in_err-factors_outcome
unfolding check_factors_of
returns-in_err-factors_outcome c =
    let wide : length c.clear_row.new.row ≡ length c.args.work.now = ap length c.clear_row.ensures ∙ length-zeros (length c.args.work.now) in
    checks _ _ _ _ (stops _ _ _ _ c.from_residual.ensures.1 (c.in_err-factors_outcome.ensures ∙ ap (factors_outcome _ _ _ _ _) wide)) c.clear_row.ensures

pub check-requires : goal.check-requires
check-requires c =
    let wide : length c.clear_row.new.row ≡ length c.args.work.now = ap length c.clear_row.ensures ∙ length-zeros (length c.args.work.now) in
    let (g, z, w) = factors-good _ _ _ _ _ _ (sym c.in_ok-factors_outcome.ensures) in
    rw c.stored-plan.ensures (rw c.stored_set-set.ensures (checkable _ _ _ _ _ _ g z w (c.clear_row.ensures ∙ ap zeros (sym wide))))

pub returns : goal.returns
unfolding check_factors_of
returns c =
    let wide : length c.clear_row.new.row ≡ length c.args.work.now = ap length c.clear_row.ensures ∙ length-zeros (length c.args.work.now) in
    checks _ _ _ _
    (goes_on _ _ _ (c.in_ok-factors_outcome.ensures ∙ ap (factors_outcome _ _ _ _ _) wide)
    (c.check.ensures.0 ∙ (λ j. judge c.args.q.p c.args.n c.args.m (c.stored-plan.ensures j) (c.stored_set-set.ensures j))))
    (c.check.ensures.1 ∙ c.clear_row.ensures)

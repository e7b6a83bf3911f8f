-- `check` meets its contract: its tests are those of the definition, in order.
use Rattle.std.proofs.Common.{refl, ◌∙◌, rules}
use Rattle.refusals.proofs.Results.{stops_at, goes_past, held}
use borrow.Author.Tests.{leb-true}
use Rattle.pluq.specs.Judge.{judge}
use Rattle.check_set.proofs.Lengths.{judgeable, whole_again}
use Rattle.check_set.proofs.check.Goals as goal

pub returns-in_err-demand : goal.returns-in_err-demand
unfolding judge
returns-in_err-demand c = search (rules, stops_at)

pub returns-in_err-demand-2 : goal.returns-in_err-demand-2
unfolding judge
returns-in_err-demand-2 c = (search (rules, stops_at, goes_past), c.is_permutation-2.ensures.1 ∙ c.is_permutation.ensures.1)

pub returns-in_err-demand-3 : goal.returns-in_err-demand-3
unfolding judge
returns-in_err-demand-3 c = (search (rules, stops_at, goes_past), c.is_permutation-2.ensures.1 ∙ c.is_permutation.ensures.1)

pub returns-in_err-demand-4 : goal.returns-in_err-demand-4
unfolding judge
returns-in_err-demand-4 c = (search (rules, stops_at, goes_past), c.is_permutation-2.ensures.1 ∙ c.is_permutation.ensures.1)

pub judge_factors-requires : goal.judge_factors-requires
judge_factors-requires c =
    judgeable _ _ _ _ _ _ _ (c.is_permutation-2.ensures.1 ∙ c.is_permutation.ensures.1)
    (held _ _ _ _ c.in_ok-demand.ensures c.is_permutation.ensures.0)
    (held _ _ _ _ c.in_ok-demand-2.ensures c.is_permutation-2.ensures.0)
    (leb-true _ _ (held _ _ _ _ c.in_ok-demand-3.ensures refl))
    (leb-true _ _ (held _ _ _ _ c.in_ok-demand-4.ensures refl))
    c.requires

pub returns : goal.returns
unfolding judge
returns c = (search (rules, goes_past), whole_again c.args.m _ _ _ (c.is_permutation-2.ensures.1 ∙ c.is_permutation.ensures.1) c.judge_factors.ensures.1)

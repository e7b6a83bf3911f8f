-- `judge_factors` meets its contract: its tests are those of the definition, in order.
use Rattle.std.proofs.Common.{◌≡◌, length, ap, ◌∙◌, arith, rules}
use Rattle.refusals.proofs.Results.{stops_at, goes_past}
use Rattle.pluq.specs.Judge.{judge_factors}
use Rattle.check_set.proofs.Faults.{differs, fine}
use Rattle.check_set.proofs.judge_factors.Goals as goal

pub returns-in_err-demand : goal.returns-in_err-demand
unfolding judge_factors
returns-in_err-demand c = search (rules, stops_at)

pub returns-in_err-demand-2 : goal.returns-in_err-demand-2
unfolding judge_factors
returns-in_err-demand-2 c = search (rules, stops_at, goes_past)

pub returns-in_err-demand-3 : goal.returns-in_err-demand-3
unfolding judge_factors
returns-in_err-demand-3 c = search (rules, stops_at, goes_past)

pub returns-in_err-demand-4 : goal.returns-in_err-demand-4
unfolding judge_factors
returns-in_err-demand-4 c = search (rules, stops_at, goes_past)

pub returns-then-i-n : goal.returns-then-i-n
unfolding judge_factors
returns-then-i-n c =
    let wide : length c.upper_ok.new.work ≡ c.args.m = ap length c.upper_ok.ensures.1 ∙ c.requires.wide in
    (search (rules, goes_past, differs _ _ _ _ _ _ _ _ _ _ wide c.first_differing-i.ensures.0 (omega arith)), c.first_differing-i.ensures.1 ∙ c.upper_ok.ensures.1)

pub returns : goal.returns
unfolding judge_factors
returns c =
    let wide : length c.upper_ok.new.work ≡ c.args.m = ap length c.upper_ok.ensures.1 ∙ c.requires.wide in
    (search (rules, goes_past, fine _ _ _ _ _ _ _ _ _ _ wide c.first_differing-i.ensures.0 (omega arith)), c.first_differing-i.ensures.1 ∙ c.upper_ok.ensures.1)

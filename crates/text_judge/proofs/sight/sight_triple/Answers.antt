-- `sight_triple` meets its contract: each test picks a case of `sight`. Assumes nothing.
use mathlib.Core.Path.{◌≡◌, sym, ap, ◌∙◌}
use mathlib.Core.Bool.{true, false, ◌&&◌}
use Rattle.text_judge.specs.Judge.{is_last, within, in_range}
use Rattle.text_judge.specs.Sight.{sight, stands_if}
use Rattle.text_judge.proofs.sight.sight_triple.Goals as goal

pub returns-then-is_last : goal.returns-then-is_last
unfolding sight
returns-then-is_last c = rw (sym c.is_last.ensures ∙ c.if-is_last.true)

pub returns-then-not-in_plan : goal.returns-then-not-in_plan
unfolding sight
returns-then-not-in_plan c =
    let not_last : is_last c.args.i c.args.j c.args.v ≡ false = sym c.is_last.ensures ∙ c.if-is_last.false in
    rw (not_last, sym c.in_plan.ensures ∙ c.if-not-in_plan.true)

pub returns-then-not-in_range : goal.returns-then-not-in_range
unfolding sight
returns-then-not-in_range c =
    let not_last : is_last c.args.i c.args.j c.args.v ≡ false = sym c.is_last.ensures ∙ c.if-is_last.false in
    let inside : (within c.args.i c.args.s.n && within c.args.j c.args.s.m) ≡ true = sym c.in_plan.ensures ∙ c.if-not-in_plan.false in
    rw (not_last, inside, sym c.in_range.ensures ∙ c.if-not-in_range.true)

pub returns : goal.returns
unfolding sight
returns c =
    let not_last : is_last c.args.i c.args.j c.args.v ≡ false = sym c.is_last.ensures ∙ c.if-is_last.false in
    let inside : (within c.args.i c.args.s.n && within c.args.j c.args.s.m) ≡ true = sym c.in_plan.ensures ∙ c.if-not-in_plan.false in
    let in-range : in_range c.args.v ≡ true = sym c.in_range.ensures ∙ c.if-not-in_range.false in
    c.stands_if.ensures
    ∙ ap (stands_if _ _ _) c.residue_of.ensures.value
    ∙ rw (not_last, inside, in-range)

-- `gather_step` meets its contract: each way out is a law of `Gathering`. Assumes nothing.
use native.Mathlib.Omega.{arith}
use Rattle.factor_reduce.proofs.Gathering.{entry-none, entry-over, entry-stored}
use Rattle.factor_reduce.proofs.gather.gather_step.Goals as goal

pub returns-then-x-eq0 : goal.returns-then-x-eq0
returns-then-x-eq0 c = entry-none _ c.args.k c.args.c _ _ c.args.at c.args.limit _ _ _ _ c.take_multiple-x.ensures c.requires.lists.place c.if-x-eq0.true

pub returns-then-at-limit : goal.returns-then-at-limit
returns-then-at-limit c = entry-over _ c.args.k c.args.c _ _ c.args.at c.args.limit _ _ _ _ c.take_multiple-x.ensures c.if-x-eq0.false c.if-at-limit.true _ _ _

pub returns : goal.returns
returns c = entry-stored _ c.args.k c.args.c _ _ c.args.at c.args.limit _ _ _ _ c.take_multiple-x.ensures c.if-x-eq0.false (omega (arith, c.requires.lists.place, c.if-at-limit.false))

-- `store_entry` meets its contract: each way out is a law of `StoringSteps`. Assumes nothing.
use native.Mathlib.Omega.{arith}
use Rattle.factor_dense.proofs.StoringSteps.{entry-none, entry-over, entry-put}
use Rattle.factor_dense.proofs.storing.store_entry.Goals as goal

pub returns-then-x-eq0 : goal.returns-then-x-eq0
returns-then-x-eq0 c = entry-none c.args.k _ _ _ _ _ c.requires.lists.place c.if-x-eq0.true

pub returns-then-at-limit : goal.returns-then-at-limit
returns-then-at-limit c = entry-over _ _ _ _ _ _ c.if-x-eq0.false c.if-at-limit.true _ _ _

pub returns : goal.returns
returns c = entry-put _ _ _ _ _ _ c.if-x-eq0.false (omega (arith, c.requires.lists.place, c.if-at-limit.false))

-- `gather_pivot` meets its contract: each way out is a law of `MarkedPivots`. Assumes nothing.
use Prim.Native.Nat.{◌<◌}
use native.Mathlib.Omega.{arith}
use Rattle.factor_marked.proofs.MarkedPivots.{pivot-none, pivot-over, pivot-stored}
use Rattle.factor_marked.proofs.gather.gather_pivot.Goals as goal

pub returns-then-x-eq0 : goal.returns-then-x-eq0
returns-then-x-eq0 c = pivot-none _ _ _ _ _ _ _ _ _ _ _ _ _ c.requires _ _ _ _ _ c.take_multiple-t.ensures c.if-x-eq0.true

pub returns-then-at-limit : goal.returns-then-at-limit
returns-then-at-limit c = pivot-over _ _ _ _ _ _ _ _ _ _ _ _ _ c.requires _ _ _ _ _ c.take_multiple-t.ensures c.if-x-eq0.false c.if-at-limit.true

pub returns : goal.returns
returns c =
    let room : c.args.at < c.args.limit = omega (arith, c.requires.lists.place, c.if-at-limit.false) in
    pivot-stored _ _ _ _ _ _ _ _ _ _ _ _ _ c.requires _ _ _ _ _ c.take_multiple-t.ensures c.if-x-eq0.false (room)

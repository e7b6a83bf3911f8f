-- `take_remainder` meets its contract: each way out is a law of `SettledRows`. Assumes nothing.
use Rattle.factor_marked.proofs.SettledRows.{remainder-none, remainder-pivot, remainder-some}
use Rattle.factor_marked.proofs.taking.take_remainder.Goals as goal

pub returns-then-c-work : goal.returns-then-c-work
returns-then-c-work c = remainder-none _ _ _ c.args.l _ _ _ _ _ _ _ _ c.requires _ _ _ c.settle-s.ensures c.if-c-work.true

pub store_settled_pivot-requires : goal.store_settled_pivot-requires
store_settled_pivot-requires c = remainder-pivot _ _ _ c.args.l _ _ _ _ _ _ _ _ c.requires _ _ _ c.settle-s.ensures c.if-c-work.false

pub returns : goal.returns
returns c =
    let d = c.store_settled_pivot.ensures in
    remainder-some _ _ _ c.args.l _ _ _ _ _ _ _ _ c.requires _ _ _ c.settle-s.ensures c.if-c-work.false _ _ _ d.0 d.1

-- `extend_row` meets its contract: the cases of `extended`. Assumes nothing.
use Rattle.factor_select.proofs.Taking.{chosen-extended, none-extended, one-extended}
use Rattle.factor_select.proofs.extend_row.Goals as goal

pub returns-then-chosen-i-ne0 : goal.returns-then-chosen-i-ne0
returns-then-chosen-i-ne0 c = chosen-extended _ _ _ _ _ _ _ _ c.requires c.if-chosen-i-ne0.true

pub returns-then-c-work : goal.returns-then-c-work
returns-then-c-work c = one-extended _ _ _ _ _ _ _ _ c.requires _ _ _ c.search-c.ensures c.search-c.auto.stamps c.search-c.auto.queue c.if-chosen-i-ne0.false c.if-c-work.true

pub returns-else-c-work : goal.returns-else-c-work
returns-else-c-work c = none-extended _ _ _ _ _ _ _ _ c.requires _ _ _ c.search-c.ensures c.search-c.auto.stamps c.search-c.auto.queue c.if-c-work.false

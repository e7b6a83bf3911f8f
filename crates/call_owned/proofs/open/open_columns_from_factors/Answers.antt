-- `open_columns_from_factors` meets its contract: 9 where there are not m owners, else what the call without them gives.
use Rattle.std.proofs.Common.{sym, ◌∙◌}
use Rattle.call_owned.proofs.Ways.{lists-refuses, lists-passes}
use Rattle.call_owned.proofs.open.open_columns_from_factors.Goals as goal

pub returns-then-not-owners_fit : goal.returns-then-not-owners_fit
returns-then-not-owners_fit c = rw c.into.ensures (lists-refuses _ _ _ _ _ _ _ (sym c.owners_fit.ensures ∙ c.if-not-owners_fit.true) c.clear.ensures c.clear_row.ensures)

pub returns : goal.returns
returns c = lists-passes _ _ _ _ _ _ _ (sym c.owners_fit.ensures ∙ c.if-not-owners_fit.false) _ c.open_columns_from_factors.ensures

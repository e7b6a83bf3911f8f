-- `factor` meets its contract: 9 where there are not m owners, else what the call without them gives.
use Rattle.std.proofs.Common.{sym, ◌∙◌}
use Rattle.call_owned.proofs.Ways.{leaves-refuses, leaves-passes}
use Rattle.call_owned.proofs.factor.factor.Goals as goal

pub returns-then-not-owners_fit : goal.returns-then-not-owners_fit
returns-then-not-owners_fit c = rw c.into.ensures (leaves-refuses _ _ _ _ (sym c.owners_fit.ensures ∙ c.if-not-owners_fit.true) c.clear_all.ensures)

pub returns : goal.returns
returns c = leaves-passes _ _ _ _ (sym c.owners_fit.ensures ∙ c.if-not-owners_fit.false) _ c.factor.ensures

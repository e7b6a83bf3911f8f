-- `write_certificate` meets its contract: 9 where there are not m owners, else what the call without them gives.
use Rattle.std.proofs.Common.{sym, ◌∙◌}
use Rattle.call_owned.proofs.Ways.{writes-refuses, writes-passes}
use Rattle.call_owned.proofs.write.write_certificate.Goals as goal

pub returns-then-not-owners_fit : goal.returns-then-not-owners_fit
returns-then-not-owners_fit c = rw c.into.ensures (writes-refuses _ _ _ _ _ _ _ _ (sym c.owners_fit.ensures ∙ c.if-not-owners_fit.true) c.clear_bytes.ensures c.clear_row.ensures)

pub returns : goal.returns
returns c = writes-passes _ _ _ _ _ _ _ _ (sym c.owners_fit.ensures ∙ c.if-not-owners_fit.false) _ c.write_certificate.ensures

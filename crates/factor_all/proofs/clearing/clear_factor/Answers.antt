-- `clear_factor` meets its contract.
use Rattle.factor_passes.proofs.WorkingRow.{zeros-self}
use Rattle.factor_all.proofs.clearing.clear_factor.Goals as goal

pub returns : goal.returns
returns c = record { starts = zeros-self _ _ c.clear.ensures; columns = zeros-self _ _ c.clear-2.ensures; values = zeros-self _ _ c.clear-3.ensures }

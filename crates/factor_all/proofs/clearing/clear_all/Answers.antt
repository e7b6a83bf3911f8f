-- `clear_all` meets its contract.
use Rattle.factor_passes.proofs.WorkingRow.{zeros-self}
use Rattle.factor_all.proofs.clearing.clear_all.Goals as goal

pub returns : goal.returns
returns c =
    record {
      R-clear = zeros-self _ _ c.clear.ensures;
      C-clear = zeros-self _ _ c.clear-2.ensures;
      L-clear = c.clear_factor.ensures;
      U-clear = c.clear_factor-2.ensures;
      w-clear = zeros-self _ _ c.clear_row.ensures;
    }

-- `factor` meets its contract: what is refused is cleared, and what passes is factored.
use Rattle.std.proofs.Common.{sym}
use Rattle.call_factor.proofs.Ready.{call-refused}
use Rattle.call_factor.proofs.factor.Goals as goal

pub returns-in-Err : goal.returns-in-Err
returns-in-Err c = call-refused _ _ _ _ _ _ _ _ (sym c.in-Err.ensures) c.clear_all.ensures

pub factor_accepted-requires : goal.factor_accepted-requires
factor_accepted-requires c = sym c.in_default.ensures

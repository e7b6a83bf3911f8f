-- `write_certificate` meets its contract: each way out is a law of `Ways`.
use Rattle.std.proofs.Common.{arith, sym}
use Rattle.refusals.proofs.Results.{is_left}
use Rattle.call_write.proofs.Ways.{writable, refuses, too_short, done}
use Rattle.call_write.proofs.write_certificate.Goals as goal

pub returns-in-Err : goal.returns-in-Err
returns-in-Err c = refuses _ _ _ _ _ _ _ _ _ c.check_factors-checked.ensures.cleared _ c.in-Err.ensures.outcome c.clear_bytes.ensures

pub write-length-requires : goal.write-length-requires
write-length-requires c = writable _ _ _ _ _ _ (sym c.in_default.ensures.outcome) (λ i h. omega (arith, c.type_inv.ls i)) (λ i h. omega (arith, c.type_inv.us i))

pub returns-in_err-demand : goal.returns-in_err-demand
returns-in_err-demand c =
    rw (is_left c.from_residual.result _ c.from_residual.ensures.1)
    (too_short _ _ _ _ _ _ _ _ _ c.check_factors-checked.ensures.cleared c.in_default.ensures.outcome _ c.write-length.ensures _ c.in_err-demand.ensures)

pub returns : goal.returns
returns c = done _ _ _ _ _ _ _ _ _ c.check_factors-checked.ensures.cleared c.in_default.ensures.outcome _ c.write-length.ensures c.in_ok-demand.ensures

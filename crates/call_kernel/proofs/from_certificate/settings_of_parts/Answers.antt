-- `settings_of_parts` meets its contract: the value that the bytes make is the set that they hold, and the part of the working row that is lent comes back all zero.
use Rattle.std.proofs.Common.{◌≤◌, length, arith}
use Rattle.call_kernel.proofs.Ways.{ready_by, filled-by}
use Rattle.call_kernel.proofs.from_certificate.settings_of_parts.Goals as goal

pub basis-requires : goal.basis-requires
basis-requires c = ready_by _ _ _ _ _ _ _ c.index-width.ensures c.set_of_certificate-set.ensures c.requires.ready

pub returns : goal.returns
returns c =
    let wide : c.index-width.result ≤ length c.args.work.now = omega (arith, c.index-width.ensures, c.requires.room) in
    filled-by _ _ _ _ _ _ _ _ c.index-width.ensures c.set_of_certificate-set.ensures wide c.requires.clear c.basis.auto.work c.basis.ensures

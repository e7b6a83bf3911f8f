-- `solve_parts` meets its contract: the value that the bytes make is the set that they hold.
use Rattle.call_slots.proofs.from_certificate.solve_parts.Goals as goal

pub solve-requires : goal.solve-requires
solve-requires c = rw c.set_of_certificate-set.ensures c.requires.ready

pub returns : goal.returns
returns c = rw c.set_of_certificate-set.ensures at c.solve.ensures

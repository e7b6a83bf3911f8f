-- `solve_stored` meets its contract: the value that the lists make is the set itself.
use Rattle.call_slots.proofs.from_factors.solve_stored.Goals as goal

pub solve-requires : goal.solve-requires
solve-requires c = rw c.stored_set-set.ensures c.requires

pub returns : goal.returns
returns c = rw c.stored_set-set.ensures at c.solve.ensures

-- `grow_numbers` meets its contract, by whichever loop.
use native.Mathlib.Omega.{arith}
use Rattle.sparse.proofs.Subtraction.{grown-more}
use Rattle.sparse.proofs.AddLaws.{add-ready, added-grown}
use Rattle.sparse.proofs.growing.grow_numbers.Goals as goal

pub grow_run-requires : goal.grow_run-requires
grow_run-requires g c = (c.requires, c.is_run.ensures c.if-is_run.true)

pub returns-then-is_run : goal.returns-then-is_run
returns-then-is_run g c = c.grow_run.ensures

pub overflow_sub-q : goal.overflow_sub-q
overflow_sub-q g c = omega (arith, c.requires.residue)

pub add_entries-requires : goal.add_entries-requires
add_entries-requires g c = add-ready _ _ _ _ _ _ c.requires (omega (arith, c.if-q-le65535.true)) (omega (arith, c.requires.residue))

pub returns-then-q-le65535 : goal.returns-then-q-le65535
returns-then-q-le65535 g c = added-grown _ _ _ _ _ _ c.requires (omega (arith, c.if-q-le65535.true)) (omega (arith, c.requires.residue)) _ c.add_entries.ensures

pub subtract_numbers-requires : goal.subtract_numbers-requires
subtract_numbers-requires g c = record { row = c.requires.row; residue = c.requires.residue }

pub returns : goal.returns
returns g c = grown-more _ 0 _ _ _ _ (omega arith) c.subtract_numbers.ensures

-- `passes_table` meets its contract. The loop's invariant: p passes the entries so far. Assumes nothing.
use mathlib.Core.Path.{sym}
use borrow.Author.Count.{below_more}
use native.Mathlib.Omega.{arith}
use Rattle.lists.proofs.Tests.{all_pass}
use Rattle.residue.specs.Primality.{small_primes, small_prime, passes_table}
use Rattle.residue.proofs.Table.{entry-large, square-fits, root-passes, divided-fails, undivided-passes}
use Rattle.residue.proofs.prime_test.passes_table.Goals as goal

pub overflow_mul-q : goal.overflow_mul-q
unfolding small_prime small_primes
overflow_mul-q c = record { fits = square-fits c.loop-q.q-index c.loop-q-test.true }

pub returns-then-p-q : goal.returns-then-p-q
unfolding small_prime small_primes
returns-then-p-q c = sym (root-passes _ c.loop-q.q-index c.loop-q-test.true c.if-p-q.true c.loop-q.invariant)

pub nonzero_rem-p : goal.nonzero_rem-p
unfolding small_prime small_primes
nonzero_rem-p c = omega (arith, entry-large c.loop-q.q-index c.loop-q-test.true)

pub returns-then-p-q-eq0 : goal.returns-then-p-q-eq0
unfolding small_prime small_primes
returns-then-p-q-eq0 c = sym (divided-fails _ c.loop-q.q-index c.loop-q-test.true c.if-p-q.false c.if-p-q-eq0.true)

pub loop-q-preserved : goal.loop-q-preserved
unfolding small_prime small_primes
loop-q-preserved c = below_more _ _ c.loop-q.invariant (undivided-passes _ c.loop-q.q-index c.if-p-q-eq0.false)

pub returns : goal.returns
unfolding passes_table
returns c = sym (all_pass 54 _ (λ k g. c.loop-q.invariant k (omega arith)))

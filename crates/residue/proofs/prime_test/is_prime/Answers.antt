-- `is_prime` meets its contract: the table decides against, or prepares for the odd divisors. Assumes nothing.
use mathlib.Core.Path.{sym, ◌∙◌}
use native.Mathlib.Omega.{arith}
use Rattle.residue.proofs.Primes.{not-prime}
use Rattle.residue.proofs.Table.{failing-composite}
use Rattle.residue.proofs.prime_test.is_prime.Goals as goal

pub returns-then-p-lt2 : goal.returns-then-p-lt2
returns-then-p-lt2 c = sym (not-prime _ (λ prime. omega (arith, prime.two)))

pub returns-then-not-passes_table : goal.returns-then-not-passes_table
returns-then-not-passes_table c = sym (failing-composite _ (sym c.passes_table.ensures ∙ c.if-not-passes_table.true))

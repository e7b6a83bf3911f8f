-- `passes_odd` meets its contract. The loop's invariant: d is odd, and no prime below it up to the square root of p divides p. Assumes nothing.
use Prim.Native.Nat.{◌%◌}
use mathlib.Core.Path.{◌≡◌}
use Rattle.residue.proofs.Divisors.{UndividedBelow}
use Rattle.residue.proofs.prime_test.passes_odd.Given as goal

abbrev pub invariant-loop-d : goal.invariant-loop-d
invariant-loop-d l = record { odd : l.d % 2 ≡ 1; undivided : UndividedBelow l.p l.d }

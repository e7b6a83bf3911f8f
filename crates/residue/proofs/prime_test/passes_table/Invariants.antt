-- `passes_table` meets its contract. The loop's invariant: p passes the entries so far. Assumes nothing.
use Prim.Native.Nat.{ℕ, ◌<◌}
use mathlib.Core.Path.{◌≡◌}
use mathlib.Core.Bool.{true}
use Rattle.residue.proofs.Table.{passes}
use Rattle.residue.proofs.prime_test.passes_table.Given as goal

abbrev pub invariant-loop-q : goal.invariant-loop-q
invariant-loop-q l = (k : ℕ) → k < l.q-index → passes l.p k ≡ true

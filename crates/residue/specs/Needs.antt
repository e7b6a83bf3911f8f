-- What an inner function needs.
--   Tabled p    p is at least 2, and no entry of the table up to its square root divides it
use Rattle.std.specs.Prelude.{ℕ, ◌≤◌, ◌≡◌, true}
use Rattle.residue.specs.Primality.{passes_table}

pub record Tabled (p : ℕ) : Type 0 where
  pub two : 2 ≤ p
  pub passed : passes_table p ≡ true

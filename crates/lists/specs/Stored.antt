-- Numbers or bytes that are stored in a lent list, one run after another.
--   Stored l₀ l at next xs    the contract of one step: l is l₀ with xs from place `at` on, and next is the place after them
use Rattle.std.specs.Prelude.{ℕ, ◌+◌, List, ◌≡◌, length}
use Rattle.std.proofs.lemmas.List.Edits.{sets}

pub record Stored (l₀ l : List ℕ) (at next : ℕ) (xs : List ℕ) : Type 0 where
  pub now-is : l ≡ sets l₀ at xs
  pub next-is : next ≡ at + length xs

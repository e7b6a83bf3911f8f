-- Equality modulo p.
--   x ≈⟨ p ⟩ y    x and y leave the same remainder when divided by p
use Rattle.std.specs.Prelude.{◌≡◌, ℕ, ◌%◌}

infix 40 ◌≈⟨◌⟩◌
pub record ◌≈⟨◌⟩◌ (x p y : ℕ) : Type 0 where
  pub same : x % p ≡ y % p

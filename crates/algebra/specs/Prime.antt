-- Prime numbers.
--   Prime p    p is at least 2, and whatever divides it is 1 or p
use Rattle.std.specs.Prelude.{◌≡◌, ◌⊎◌, ℕ, ◌%◌, ◌≤◌}

pub record Prime (p : ℕ) : Type 0 where
  pub two : 2 ≤ p
  pub only : (d : ℕ) → p % d ≡ 0 → (d ≡ 1) ⊎ (d ≡ p)

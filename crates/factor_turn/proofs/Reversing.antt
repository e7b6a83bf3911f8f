-- A list is turned round from both ends.
use mathlib.Core.Path.{◌≡◌}
use mathlib.Core.List.{List}
use Prim.Native.Nat.{ℕ, ◌+◌, ◌-◌, ◌≤◌, ◌<◌}
use lib.ListN.{length, get_or}

-- t numbers at either end are exchanged
pub record TurningRound (l₀ l : List ℕ) (t : ℕ) : Type 0 where
  pub long : length l ≡ length l₀
  pub half : t + t ≤ length l₀
  pub low : (j : ℕ) → j < t → get_or l j 0 ≡ get_or l₀ (length l₀ - 1 - j) 0
  pub high : (j : ℕ) → j < t → get_or l (length l₀ - 1 - j) 0 ≡ get_or l₀ j 0
  pub between : (j : ℕ) → t ≤ j → j + t < length l₀ → get_or l j 0 ≡ get_or l₀ j 0

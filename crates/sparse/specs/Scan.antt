-- Cells of a working row that are 0.
--   ZeroRun w j r           r of the eight cells from place j on are 0 before the first that is not
--   NextNonzero w from r    r is the first place from `from` on whose cell is not 0, or the length
use Rattle.std.specs.Prelude.{ℕ, ◌+◌, ◌≤◌, ◌<◌, ◌≡◌, List, length, get_or}

pub record ZeroRun (w : List ℕ) (j r : ℕ) : Type 0 where
  pub most : r ≤ 8
  pub none : (i : ℕ) → i < r → get_or w (j + i) 0 ≡ 0
  pub one : r < 8 → ¬ (get_or w (j + r) 0 ≡ 0)

pub record NextNonzero (w : List ℕ) (from r : ℕ) : Type 0 where
  pub least : from ≤ r
  pub inside : r ≤ length w
  pub none : (i : ℕ) → from ≤ i → i < r → get_or w i 0 ≡ 0
  pub one : r < length w → ¬ (get_or w r 0 ≡ 0)

-- Cells that are passed over because they are 0.
use mathlib.Core.Path.{◌≡◌}
use mathlib.Core.List.{List}
use Prim.Native.Nat.{ℕ, zero, suc, ◌+◌, ◌-◌, ◌≤◌, ◌<◌}
use native.Mathlib.Nat.{add-zero}
use native.Mathlib.Omega.{arith}
use lib.ListN.{length, get_or}
use Rattle.sparse.specs.Scan.{NextNonzero}

-- ---- the search for the next cell that is not 0

pub record Passed (w : List ℕ) (from j : ℕ) : Type 0 where
  pub least : from ≤ j
  pub inside : j ≤ length w
  pub none : (i : ℕ) → from ≤ i → i < j → get_or w i 0 ≡ 0

-- ---- what holds after each cell holds after the cells that are passed over

pub over_zeros : (P : ℕ → Type 0) (w : List ℕ) (from r : ℕ) → NextNonzero w from r → ((i : ℕ) → i < length w → get_or w i 0 ≡ 0 → P i → P (i + 1)) → P from → P r
over_zeros P w from r d step h = rw (let e : r ≡ from + (r - from) = omega (arith, d.least) in e) (go (r - from) (omega arith))
  where
    go : (k : ℕ) → k ≤ r - from → P (from + k)
    go zero g = rw (add-zero from) h
    go (suc k) g =
        rw (let e : from + suc k ≡ from + k + 1 = omega arith in e)
        (step (from + k) (omega (arith, d.inside)) (d.none (from + k) (omega arith) (omega arith)) (go k (omega arith)))

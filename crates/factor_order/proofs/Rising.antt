-- Numbers that never fall.
use mathlib.Core.Path.{◌≡◌, ap}
use mathlib.Core.Logic.{◌⊎◌, inl, inr}
use Prim.Native.Nat.{ℕ, zero, suc, ◌≤◌, ◌<◌}
use native.Mathlib.Nat.{eq-or-lt_of_le}
use native.Mathlib.Omega.{arith}

-- what never falls from one number to the next never falls
pub rising : (f : ℕ → ℕ) → ((k : ℕ) → f k ≤ f (suc k)) → (a b : ℕ) → a ≤ b → f a ≤ f b
rising f h a zero l = omega (arith, ap f (let e : a ≡ 0 = omega arith in e))
rising f h a (suc b) l = go (eq-or-lt_of_le l) (rising f h a b)
  where
    go : (a ≡ suc b) ⊎ (a < suc b) → (a ≤ b → f a ≤ f b) → f a ≤ f (suc b)
    go (inl e) ih = omega (arith, ap f e)
    go (inr k) ih = omega (arith, ih (omega arith), h b)

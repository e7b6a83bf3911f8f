-- The cells of the working row copied one after another.
use mathlib.Core.Path.{◌≡◌, refl}
use mathlib.Core.List.{List}
use Prim.Native.Nat.{ℕ, zero, suc, ◌≤◌, ◌<◌}
use native.Mathlib.Omega.{arith}
use lib.ListN.{length, get_or, replicate}

pub record Copying (width : ℕ) (js w out : List ℕ) (l : ℕ) : Type 0 where
  pub inside : l ≤ width
  pub long : length out ≡ 32
  pub done : (j : ℕ) → j < l → get_or out j 0 ≡ get_or w (get_or js j 0) 0
  pub rest : (j : ℕ) → l ≤ j → get_or out j 0 ≡ 0

-- a row of zeros, read at any place
pub zero-at : (n j : ℕ) → get_or (replicate {A = ℕ} n 0) j 0 ≡ 0
zero-at zero j = refl
zero-at (suc n) zero = refl
zero-at (suc n) (suc j) = zero-at n j

pub copying-starts : (width : ℕ) (js w : List ℕ) → Copying width js w (replicate 32 0) 0
copying-starts width js w = record { inside = omega arith; long = refl; done = λ j h. absurd (omega arith); rest = λ j h. zero-at 32 j }

-- Laws of `Below`: every number of a list is below a bound.
use mathlib.Core.Path.{◌≡◌, sym, subst}
use mathlib.Core.List.{List, [], ◌∷◌, ◌++◌}
use Prim.Native.Nat.{ℕ, zero, suc, ◌+◌, ◌-◌, ◌≤◌, ◌<◌}
use native.Mathlib.Omega.{arith}
use lib.ListN.{length, drop, length-drop}
use lib.Seq.{get_or-drop}
use Rattle.sparse.specs.Row.{Below}

pub below_none : (b : ℕ) → Below b []
below_none b i h = absurd (omega arith)

pub below-cons : (b x : ℕ) (xs : List ℕ) → x < b → Below b xs → Below b (x ∷ xs)
below-cons b x xs h g zero l = h
below-cons b x xs h g (suc i) l = g i (omega arith)

pub below-tail : (b x : ℕ) (xs : List ℕ) → Below b (x ∷ xs) → Below b xs
below-tail b x xs h i l = h (suc i) (omega arith)

pub below-append : (b : ℕ) (xs ys : List ℕ) → Below b xs → Below b ys → Below b (xs ++ ys)
below-append b [] ys p q = q
below-append b (x ∷ xs) ys p q = below-cons b x (xs ++ ys) (p 0 (omega arith)) (below-append b xs ys (below-tail b x xs p) q)

pub below-drop : (b : ℕ) (xs : List ℕ) (k : ℕ) → Below b xs → Below b (drop k xs)
below-drop b xs k h i l =
    let e : length (drop k xs) ≡ length xs - k = length-drop k xs in
    subst (λ (x : ℕ). x < b) (sym (get_or-drop k xs i 0)) (h (k + i) (omega arith))

pub below_wider : (a b : ℕ) (xs : List ℕ) → a ≤ b → Below a xs → Below b xs
below_wider a b xs h f i l = omega (arith, f i l)

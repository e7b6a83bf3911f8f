-- Values that are added to a question, as many as its list has room for.
use mathlib.Core.Path.{◌≡◌, refl, sym, ap, ◌∙◌}
use mathlib.Core.List.{List, [], ◌∷◌, ◌++◌, append-nil}
use Prim.Native.Nat.{ℕ, zero, suc, ◌≤◌}
use native.Mathlib.Omega.{arith}
use lib.ListN.{length, take}
use lib.Seq.{length-take-le, take_all}
use Rattle.ask.specs.Values.{Added}

-- what is cut off at the front is cut off of the whole
pub cut-front : (n : ℕ) (a b : List ℕ) → take n (take n a ++ b) ≡ take n (a ++ b)
cut-front zero a b = refl
cut-front (suc n) [] b = refl
cut-front (suc n) (x ∷ a) b = ap (λ (l : List ℕ). x ∷ l) (cut-front n a b)

-- no value
pub none-added : (y : List ℕ) (k : ℕ) → k ≤ length y → Added y k y k []
none-added y k h =
    let long : length (take k y) ≡ k = length-take-le k y h in
    record { inside = h; values = sym (ap (take (length y)) (append-nil (take k y)) ∙ take_all (length y) (take k y) (omega arith)) }

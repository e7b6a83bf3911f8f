-- Cells and beginnings of lists that are filled, or cut.
use mathlib.Core.Path.{◌≡◌, refl, ap}
use mathlib.Core.List.{List, [], ◌∷◌, ◌++◌}
use Prim.Native.Nat.{ℕ, zero, suc, ◌-◌, ◌≤◌, ◌<◌}
use native.Mathlib.Omega.{arith}
use lib.ListN.{length, get_or, take, length-append}
use Rattle.lists.specs.Filled.{zeros, filled}
use Rattle.lists.proofs.Filled.{length-zeros, zeros-at}

-- what a list is filled with is no longer than the list
pub filled-fits : (l xs : List ℕ) → l ≡ filled (length l) xs → length xs ≤ length l
unfolding filled
filled-fits l xs e = omega (arith, ap length e, length-append xs (zeros (length l - length xs)), length-zeros (length l - length xs))

append-zeros : (xs : List ℕ) (j k : ℕ) → get_or (xs ++ zeros j) k 0 ≡ get_or xs k 0
append-zeros [] j k = zeros-at j k
append-zeros (x ∷ xs) j zero = refl
append-zeros (x ∷ xs) j (suc k) = append-zeros xs j k

pub filled-cell : (n k : ℕ) (xs : List ℕ) → get_or (filled n xs) k 0 ≡ get_or xs k 0
unfolding filled
filled-cell n k xs = append-zeros xs (n - length xs) k

pub cut-cell : (l : List ℕ) (n k : ℕ) → k < n → get_or (take n l) k 0 ≡ get_or l k 0
cut-cell l zero k h = absurd (omega arith)
cut-cell [] (suc n) k h = refl
cut-cell (x ∷ l) (suc n) zero h = refl
cut-cell (x ∷ l) (suc n) (suc k) h = cut-cell l n k (omega arith)

pub cut-cut : (l : List ℕ) (a b : ℕ) → a ≤ b → take a (take b l) ≡ take a l
cut-cut l zero b h = refl
cut-cut l (suc a) zero h = absurd (omega arith)
cut-cut [] (suc a) (suc b) h = refl
cut-cut (x ∷ l) (suc a) (suc b) h = ap (λ (r : List ℕ). x ∷ r) (cut-cut l a b (omega arith))

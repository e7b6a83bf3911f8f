-- Numbers stored as bytes, one run after another, and the loop that stores them.
use mathlib.Core.Path.{◌≡◌, refl, sym, ap}
use mathlib.Core.List.{List, [], ◌∷◌, ◌++◌}
use Prim.Native.Nat.{ℕ, ◌+◌, ◌≤◌, ◌<◌}
use lib.ListN.{length, get_or, drop, drop_of_length-le}
use lib.Seq.{sets}
use Rattle.lists.proofs.Steps.{drop-step}
use Rattle.lists.specs.Stored.{Stored}
use Rattle.lists.proofs.Stored.{stored-as, stored-then}
use Rattle.certificate.specs.Layout.{bytes}
use Rattle.certificate.proofs.Bytes.{bytes-append}

-- one run of numbers after another
pub numbers-then : {b₀ b₁ b₂ : List ℕ} {at mid next : ℕ} (xs ys : List ℕ) → Stored b₀ b₁ at mid (bytes xs) → Stored b₁ b₂ mid next (bytes ys) → Stored b₀ b₂ at next (bytes (xs ++ ys))
numbers-then xs ys s t = stored-as (sym (bytes-append xs ys)) (stored-then s t)

-- one number
pub word-stored : {b b' : List ℕ} {at : ℕ} (x : ℕ) → b' ≡ sets b at (bytes (x ∷ [])) → Stored b b' at (at + 4) (bytes (x ∷ []))
unfolding bytes
word-stored x e = record { now-is = e; next-is = refl }

-- ---- the numbers from a place of the list on

abbrev pub bytes_from : List ℕ → ℕ → List ℕ
bytes_from list i = bytes (drop i list)

pub bytes-step : (list : List ℕ) (i : ℕ) → i < length list → bytes_from list i ≡ bytes (get_or list i 0 ∷ []) ++ bytes_from list (i + 1)
unfolding bytes
bytes-step list i h = ap (λ (l : List ℕ). bytes l) (drop-step list i (get_or list i 0) h refl)

pub bytes-end : (list : List ℕ) (i : ℕ) → length list ≤ i → bytes_from list i ≡ []
unfolding bytes
bytes-end list i h = ap (λ (l : List ℕ). bytes l) (drop_of_length-le list h)

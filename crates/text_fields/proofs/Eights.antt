-- Bytes that are passed over eight at a time, because none of them is the separator.
use mathlib.Core.Path.{◌≡◌, sym, ap, ◌∙◌}
use mathlib.Core.List.{List}
use Prim.Native.Nat.{ℕ, ◌+◌, ◌<◌}
use native.Mathlib.Nat.{add-zero}
use native.Mathlib.Omega.{arith}
use lib.ListN.{length, get_or}
use Rattle.text_fields.specs.Scan.{size_from, OfEight}
use Rattle.text_fields.proofs.Cuts.{first-hit, first-miss}

-- none of the r bytes from place j on is the separator s
pub record Past (s : ℕ) (l : List ℕ) (j r : ℕ) : Type 0 where
  pub passed : size_from s l j ≡ r + size_from s l (j + r)

module _ (s : ℕ) (l : List ℕ) (j : ℕ) where
  here : size_from s l (j + 0) ≡ size_from s l j
  here = ap (size_from s l) (add-zero j)

  pub past-none : Past s l j 0
  past-none = record { passed = omega (arith, here) }

  pub past_more : (r : ℕ) → Past s l j r → j + r < length l → ¬ (get_or l (j + r) 0 ≡ s) → Past s l j (r + 1)
  past_more r p h e =
      let next : size_from s l (j + r + 1) ≡ size_from s l (j + (r + 1)) = ap (size_from s l) (let q : j + r + 1 ≡ j + (r + 1) = omega arith in q) in
      record { passed = omega (arith, p.passed, first-miss s l (j + r) h e, next) }

  pub past_first : j < length l → ¬ (get_or l j 0 ≡ s) → Past s l j 1
  past_first h e = past_more 0 past-none (omega arith) (λ q. e (ap (λ (k : ℕ). get_or l k 0) (sym (add-zero j)) ∙ q))

  pub eight-first : j < length l → get_or l j 0 ≡ s → OfEight s l j 0
  eight-first h e =
      record { most = omega arith; passed = past-none.passed; found = λ g. here ∙ ap length (first-hit s l j h e) }

  pub eight-at : (r : ℕ) → r < 8 → Past s l j r → j + r < length l → get_or l (j + r) 0 ≡ s → OfEight s l j r
  eight-at r g p h e = record { most = omega arith; passed = p.passed; found = λ k. ap length (first-hit s l (j + r) h e) }

  pub eight-none : Past s l j 8 → OfEight s l j 8
  eight-none p = record { most = omega arith; passed = p.passed; found = λ g. absurd (omega arith) }

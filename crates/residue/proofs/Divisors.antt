-- The divisors past the table.
--   UndividedBelow p d    no prime below d whose square is at most p divides p
--   table-undivided       so it is for 257 after the table
--   odd-undivided         and from an odd d for d + 2, where d does not divide p: the number between is even
--   undivided-prime       where d is above the root r of p, p is prime
--   root-divided          and where it is not and divides p, p is no prime
use Prim.Native.Nat.{ℕ, suc, ◌+◌, ◌*◌, ◌%◌, ◌≤◌, ◌<◌}
use mathlib.Core.Path.{◌≡◌, refl, sym, ap, ◌∙◌}
use mathlib.Core.Logic.{◌⊎◌, inl, inr}
use mathlib.Core.Bool.{true, false, true≢false}
use native.Mathlib.Nat.{eq-or-lt_of_le, le_of_suc-le-suc, mul-le-mul}
use native.Mathlib.Omega.{arith}
use Rattle.algebra.specs.Prime.{Prime}
use Rattle.residue.specs.Primality.{is_prime, divided_below, small_prime, passes_table}
use Rattle.residue.proofs.Primes.{undivided, prime-true, prime-by-roots, root-lt, divided-false}
use Rattle.residue.proofs.Table.{complete, divided-fails}

abbrev pub UndividedBelow : ℕ → ℕ → Type 0
UndividedBelow p d = (q : ℕ) → Prime q → q < d → q * q ≤ p → p % q ≡ 0 → ⊥

even-256 : is_prime 256 ≡ false
unfolding is_prime divided_below
even-256 = refl

pub table-undivided : (p : ℕ) → passes_table p ≡ true → UndividedBelow p 257
table-undivided p e q prime lt le z = divided (complete q (below (eq-or-lt_of_le (le_of_suc-le-suc lt))) prime)
  where
    below : (q ≡ 256) ⊎ (q < 256) → q < 256
    below (inl s) = absurd (true≢false (sym (prime-true q prime) ∙ ap is_prime s ∙ even-256))
    below (inr l) = l

    divided : (i : ℕ) × (i < 54) × (small_prime i ≡ q) → ⊥
    divided (i, g, s) = true≢false (sym e ∙ divided-fails p i g (rw s le) (rw s z))

pub odd-undivided : (p d : ℕ) → 257 ≤ d → d % 2 ≡ 1 → UndividedBelow p d → (p % d ≡ 0 → ⊥) → UndividedBelow p (d + 2)
odd-undivided p d h odd before n q prime lt le z = go (eq-or-lt_of_le (le_of_suc-le-suc lt'))
  where
    lt' : q < suc (d + 1)
    lt' = omega arith

    even : q ≡ d + 1 → q % 2 ≡ 0
    even s = omega arith

    at_most : (q ≡ d) ⊎ (q < d) → ⊥
    at_most (inl s) = n (rw (sym s) z)
    at_most (inr l) = before q prime l le z

    go : (q ≡ d + 1) ⊎ (q < d + 1) → ⊥
    go (inl s) = undivided prime 2 (omega arith) (omega arith) (even s)
    go (inr l) = at_most (eq-or-lt_of_le (le_of_suc-le-suc (omega arith)))

pub undivided-prime : (p r d : ℕ) → 2 ≤ p → p < (r + 1) * (r + 1) → r < d → UndividedBelow p d → is_prime p ≡ true
undivided-prime p r d two root past none =
    let above : p < d * d = omega (arith, root, mul-le-mul {n₁ = r + 1} {m₁ = r + 1} {n₂ = d} {m₂ = d} (omega arith) (omega arith)) in
    prime-true p (prime-by-roots p two (λ q prime le z. none q prime (root-lt p q d le above) le z))

pub root-divided : (p r d : ℕ) → 2 ≤ d → r * r ≤ p → d ≤ r → p % d ≡ 0 → is_prime p ≡ false
root-divided p r d two root le z = divided-false p d two (omega (arith, root, mul-le-mul {n₁ = d} {m₁ = d} {n₂ = r} {m₂ = r} le le)) z

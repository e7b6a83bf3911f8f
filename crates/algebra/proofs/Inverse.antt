-- A number that is not 0 modulo a prime has an inverse.
use mathlib.Core.Path.{◌≡◌, refl, sym, ap, ◌∙◌}
use mathlib.Core.Logic.{◌⊎◌, inl, inr}
use Prim.Native.Nat.{ℕ, zero, suc, ◌+◌, ◌-◌, ◌*◌, ◌/◌, ◌%◌, ◌≤◌, ◌<◌}
use native.Mathlib.Nat.{mod-add-div, mod-lt, div-le_self, mul-one, mod-eq_of_lt, eq-zero-or-pos, zero-mod}
use native.Mathlib.Omega.{arith}
use Rattle.algebra.specs.Congruence.{◌≈⟨◌⟩◌}
use Rattle.algebra.specs.Prime.{Prime}
use Rattle.algebra.proofs.Congruence.{exact, turn, ◌⊙◌, by-multiples, ◌⊗◌, same-mod}

module _ {p : ℕ} (prime : Prime p) where
  -- one division of p by a: a loop that keeps b a₀ ≈ a, from b = 1 and a = a₀, takes b to (p - p / a) b and a to p % a
  pub division : (a : ℕ) → (p - p / a) * a ≈⟨ p ⟩ p % a
  division a = by-multiples 1 a (go (p / a) (p % a) (p - p / a) (mod-add-div p a) (omega (arith, div-le_self p a)))
    where
      go : (q r d : ℕ) → r + a * q ≡ p → d + q ≡ p → d * a + p * 1 ≡ r + p * a
      go q r d e f = omega (arith, ap (λ (z : ℕ). a * z) f)

  -- and a is 1 when nothing is left
  pub division-ends : (a : ℕ) → a < p → p % a ≡ 0 → a ≡ 1
  division-ends a low e = go (prime.only a e)
    where
      go : (a ≡ 1) ⊎ (a ≡ p) → a ≡ 1
      go (inl f) = f
      go (inr f) = absurd (omega arith)

  below : (fuel a : ℕ) → a ≤ fuel → 0 < a → a < p → (b : ℕ) × (a * b ≈⟨ p ⟩ 1)
  below zero a h pos low = absurd (omega arith)
  below (suc fuel) a h pos low =
      let l = mod-lt p pos in go (eq-zero-or-pos (p % a)) (λ k. below fuel (p % a) (omega arith) k (omega arith))
    where
      go : (p % a ≡ 0) ⊎ (0 < p % a) → (0 < p % a → (b : ℕ) × (p % a * b ≈⟨ p ⟩ 1)) → (b : ℕ) × (a * b ≈⟨ p ⟩ 1)
      go (inl e) rest = (1, exact (mul-one a ∙ division-ends a low e))
      go (inr k) rest = let (b, s) = rest k in ((p - p / a) * b, exact (omega arith) ⊙ division a ⊗ exact {x = b} refl ⊙ s)

  pub inverse : (a : ℕ) → ¬ (a ≈⟨ p ⟩ 0) → (b : ℕ) × (a * b ≈⟨ p ⟩ 1)
  inverse a h = go (eq-zero-or-pos (a % p))
    where
      go : (a % p ≡ 0) ⊎ (0 < a % p) → (b : ℕ) × (a * b ≈⟨ p ⟩ 1)
      go (inl e) = absurd (h (record { same = e ∙ sym (zero-mod p) }))
      go (inr k) =
          let s = below p (a % p) (omega (arith, mod-lt a {m = p} (omega (arith, prime.two)))) k (mod-lt a (omega (arith, prime.two))) in
          (s.0, turn (same-mod a) ⊗ exact refl ⊙ s.1)

  -- so a product is 0 only if a factor is
  pub no-divisors : {a b : ℕ} → ¬ (a ≈⟨ p ⟩ 0) → a * b ≈⟨ p ⟩ 0 → b ≈⟨ p ⟩ 0
  no-divisors {a} {b} h e =
      let s = inverse a h in
      exact (sym (mul-one b)) ⊙ exact {x = b} refl ⊗ turn s.1 ⊙ exact (omega arith) ⊙ e ⊗ exact {x = s.0} refl ⊙ exact (omega arith)

  pub one_not_zero : ¬ (1 ≈⟨ p ⟩ 0)
  one_not_zero h = let e : 1 % p ≡ 0 % p = h.same in omega (arith, mod-eq_of_lt prime.two, zero-mod p)

-- Equality modulo p.
use mathlib.Core.Path.{◌≡◌, refl, sym, ap, ◌∙◌}
use Prim.Native.Nat.{ℕ, ◌+◌, ◌-◌, ◌*◌, ◌/◌, ◌%◌, ◌≤◌, ◌<◌}
use native.Mathlib.Nat.{mod-add-div, mod-eq_of_lt, add-mul-mod_self_left, mod-mod}
use native.Mathlib.Omega.{arith}
use native.Mathlib.Decide.{ℕ_discrete, map_dec}
use Rattle.algebra.specs.Congruence.{◌≈⟨◌⟩◌}

module _ {p : ℕ} where
  -- an equation of numbers
  pub exact : {x y : ℕ} → x ≡ y → x ≈⟨ p ⟩ y
  exact e = record { same = ap (λ (z : ℕ). z % p) e }

  pub turn : {x y : ℕ} → x ≈⟨ p ⟩ y → y ≈⟨ p ⟩ x
  turn h = record { same = sym h.same }

  infixl 30 ◌⊙◌
  pub ◌⊙◌ : {x y z : ℕ} → x ≈⟨ p ⟩ y → y ≈⟨ p ⟩ z → x ≈⟨ p ⟩ z
  h ⊙ k = record { same = h.same ∙ k.same }

  -- by multiples of p
  pub by-multiples : {x y : ℕ} (a b : ℕ) → x + p * a ≡ y + p * b → x ≈⟨ p ⟩ y
  by-multiples {x} {y} a b e =
      record { same = sym (add-mul-mod_self_left x p a) ∙ ap (λ (z : ℕ). z % p) e ∙ add-mul-mod_self_left y p b }

  pub multiples : {x y : ℕ} → x ≈⟨ p ⟩ y → x + p * (y / p) ≡ y + p * (x / p)
  multiples {x} {y} h = let e : x % p ≡ y % p = h.same in omega (arith, mod-add-div x p, mod-add-div y p)

  pub ◌⊕◌ : {x x' y y' : ℕ} → x ≈⟨ p ⟩ x' → y ≈⟨ p ⟩ y' → x + y ≈⟨ p ⟩ x' + y'
  ◌⊕◌ {x} {x'} {y} {y'} h k = by-multiples (x' / p + y' / p) (x / p + y / p) (omega (arith, multiples h, multiples k))

  pub ◌⊗◌ : {x x' y y' : ℕ} → x ≈⟨ p ⟩ x' → y ≈⟨ p ⟩ y' → x * y ≈⟨ p ⟩ x' * y'
  ◌⊗◌ {x} {x'} {y} {y'} h k =
      by-multiples (x' / p * y + x' * (y' / p)) (x / p * y + x' * (y / p))
      (omega (arith, ap (λ (z : ℕ). z * y) (multiples h), ap (λ (z : ℕ). x' * z) (multiples k)))

  infixl 60 ◌⊕◌
  infixl 70 ◌⊗◌
  -- a number may be added on both sides
  pub cancel : {x y : ℕ} (c : ℕ) → x + c ≈⟨ p ⟩ y + c → x ≈⟨ p ⟩ y
  cancel {x} {y} c h = by-multiples ((y + c) / p) ((x + c) / p) (omega (arith, multiples h))

  pub cancel-zero : {x : ℕ} (c : ℕ) → x + c ≈⟨ p ⟩ c → x ≈⟨ p ⟩ 0
  cancel-zero c h = cancel c (h ⊙ exact (omega arith))

  pub same-mod : (x : ℕ) → x % p ≈⟨ p ⟩ x
  same-mod x = record { same = mod-mod x p }

  pub zero? : (x : ℕ) → Dec (x ≈⟨ p ⟩ 0)
  zero? x = map_dec (λ e. record { same = e }) (λ h. h.same) (ℕ_discrete (x % p) (0 % p))

  pub same_refl : (x : ℕ) → x ≈⟨ p ⟩ x
  same_refl x = exact refl

  -- p - 1 times q is less q
  pub minus : (x q : ℕ) → 1 ≤ p → x + (p - 1) * q + q ≈⟨ p ⟩ x
  minus x q h = by-multiples 0 q (go (p - 1) (omega arith))
    where
      go : (d : ℕ) → d + 1 ≡ p → x + d * q + q + p * 0 ≡ x + p * q
      go d e = omega (arith, ap (λ (z : ℕ). z * q) e)

  -- residues that are equal modulo p are equal
  pub equal-residues : {x y : ℕ} → x < p → y < p → x ≈⟨ p ⟩ y → x ≡ y
  equal-residues h k e = sym (mod-eq_of_lt h) ∙ e.same ∙ mod-eq_of_lt k

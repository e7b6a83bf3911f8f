-- The accepted moduli, as the reader meets them.
use mathlib.Core.Path.{◌≡◌, refl}
use mathlib.Core.Bool.{Bool, true, false}
use Prim.Native.Nat.{ℕ, ◌^◌, ◌≤◌, ◌<◌}
use native.Mathlib.Omega.{arith}
use Rattle.residue.specs.Range.{is_modulus}
use Rattle.residue.proofs.Primes.{modulus-prime, modulus-range}

pub modulus-fits : (p : ℕ) → is_modulus p ≡ true → p < 2 ^ 32
modulus-fits p e = omega (arith, modulus-range p e)

pub modulus-two : (p : ℕ) → is_modulus p ≡ true → 2 ≤ p
modulus-two p e = (modulus-prime p e).two

pub not-modulus : (p : ℕ) → 4294967295 < p → is_modulus p ≡ false
not-modulus p h = go (is_modulus p) refl
  where
    go : (t : Bool) → is_modulus p ≡ t → t ≡ false
    go true e = absurd (omega (arith, modulus-fits p e))
    go false e = refl

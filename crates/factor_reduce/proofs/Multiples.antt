-- One multiple of a row of U taken away from the working row.
use mathlib.Core.Path.{◌≡◌, refl, ap, ◌∙◌}
use mathlib.Core.List.{List}
use Prim.Native.Nat.{ℕ, suc, ◌+◌, ◌-◌, ◌*◌, ◌%◌, ◌<◌}
use native.Mathlib.Nat.{zero-mod, mod-lt, mul-le-mul_left}
use native.Mathlib.Decide.{ℕ_discrete}
use native.Mathlib.Omega.{arith}
use lib.ListN.{length, get_or, set, length-set}
use lib.Seq.{get_or-set_same, get_or-set_other}
use Rattle.algebra.specs.Congruence.{◌≈⟨◌⟩◌}
use Rattle.algebra.specs.Matrix.{Vector, Matrix}
use Rattle.algebra.specs.Reduction.{reduced}
use Rattle.algebra.proofs.Congruence.{exact, turn, ◌⊙◌, ◌⊕◌, same-mod, by-multiples}
use Rattle.residue.specs.Arithmetic.{Residue}
use Rattle.sparse.specs.Row.{Below}
use Rattle.sparse.specs.WorkingRow.{Subtracted}
use Rattle.sparse.proofs.Subtraction.{below_set, subtracted-none, subtracted-ext}
use Rattle.factor_reduce.specs.InPlace.{MultipleTaken}

-- 0 times a row is nothing
pub subtracted-zero : (p x : ℕ) (u : Vector) (w : List ℕ) → x ≡ 0 → Below (p * p) w → Subtracted p (λ j. x * u j) w w
subtracted-zero p x u w e b =
    subtracted-ext p (λ j. 0) (λ j. x * u j) w w (λ j. omega (arith, ap (λ (z : ℕ). z * u j) e)) (subtracted-none p w b)

-- the multiple is taken away, and the cell that it came from is cleared: the row is 1 there, so that nothing remains
pub multiple-taken : (p c x : ℕ) (u : Vector) (w₀ w : List ℕ) → c < length w₀ → u c ≡ 1 → Residue p (get_or w₀ c 0 % p) x → Subtracted p (λ j. x * u j) w₀ w
    → MultipleTaken p c u w₀ (set w c 0) x
multiple-taken p c x u w₀ w h unit e s =
    record {
      multiple = e;
      long = length-set w c 0 ∙ s.long;
      below = below_set (p * p) w c 0 s.below (omega (arith, e.below, mul-le-mul_left {m = 1} {n = p} p (omega (arith, e.below))));
      cells = λ j g. cell j g (ℕ_discrete j c);
    }
  where
    cell : (j : ℕ) → j < length w₀ → Dec (j ≡ c) → get_or (set w c 0) j 0 + x * u j ≈⟨ p ⟩ get_or w₀ j 0
    cell j g (yes q) =
        rw q (exact (omega (arith, get_or-set_same w c 0 0 (omega (arith, s.long)), ap (λ (z : ℕ). x * z) unit, e.value)) ⊙ same-mod (get_or w₀ c 0))
    cell j g (no q) = exact (ap (λ (z : ℕ). z + x * u j) (get_or-set_other w c j 0 0 q)) ⊙ s.cells j g

-- a cell of 0 asks for nothing
pub nothing-taken : (p c : ℕ) (u : Vector) (w : List ℕ) → 0 < p → Below (p * p) w → get_or w c 0 ≡ 0 → MultipleTaken p c u w w (get_or w c 0 % p)
nothing-taken p c u w pos below e =
    record {
      multiple = record { value = refl; below = mod-lt (get_or w c 0) pos };
      long = refl;
      below = below;
      cells = λ j h. exact (omega (arith, ap (λ (z : ℕ). z * u j) (ap (λ (z : ℕ). z % p) e ∙ zero-mod p)));
    }

-- one step of the definition, by what the cells stand for
pub reduced-next : (p k : ℕ) (C : Vector) (U : Matrix) (y : Vector) (j a b x : ℕ) → x < p → x ≡ reduced p C U k y (C k) → b % p ≡ reduced p C U k y j → a + x * U k j ≈⟨ p ⟩ b
    → a % p ≡ reduced p C U (suc k) y j
unfolding reduced
reduced-next p k C U y j a b x small ex eb s = go.same
  where
    more : (d : ℕ) → d + x ≡ p → a + p * U k j ≡ a + x * U k j + d * U k j + p * 0
    more d e = omega (arith, ap (λ (z : ℕ). z * U k j) e)

    go : a ≈⟨ p ⟩ reduced p C U k y j + (p - reduced p C U k y (C k)) * U k j
    go =
        by-multiples (U k j) 0 (more (p - x) (omega arith))
        ⊙ (s ⊙ turn (same-mod b) ⊙ exact eb) ⊕ exact (ap (λ (z : ℕ). (p - z) * U k j) ex)

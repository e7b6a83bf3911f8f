-- What an open and a closed question tell.
use mathlib.Core.Path.{ap, ◌∙◌}
use Prim.Native.Nat.{ℕ, ◌+◌, ◌-◌, ◌*◌, ◌%◌, ◌≤◌}
use native.Mathlib.Nat.{mod-lt}
use native.Mathlib.Omega.{arith}
use Rattle.algebra.specs.Congruence.{◌≈⟨◌⟩◌}
use Rattle.algebra.specs.Sum.{dot}
use Rattle.algebra.specs.Prime.{Prime}
use Rattle.algebra.specs.Matrix.{Vector, Matrix}
use Rattle.algebra.specs.RowSpace.{Combines, InRowSpace, InKernel}
use Rattle.algebra.specs.Settings.{Determined, Undetermined}
use Rattle.algebra.proofs.Congruence.{exact, turn, ◌⊙◌, ◌⊕◌, ◌⊗◌, same_refl, same-mod, minus}
use Rattle.algebra.proofs.Inverse.{inverse}
use Rattle.algebra.proofs.Dot.{dot-left, dot-right, dot-comm, dot-add, dot-scale, dot-assoc}

-- (x A) s is x (A s)
pub through : {p : ℕ} (n m : ℕ) (A : Matrix) (y x : Vector) → Combines p n m A y x → (s : Vector) → dot m y s ≈⟨ p ⟩ dot n x (λ i. dot m (A i) s)
unfolding Combines
through n m A y x g s = turn (dot-left m s g) ⊙ exact (dot-assoc n m x A s)

pub row-space-determined : (p n m : ℕ) (A : Matrix) (y : Vector) → InRowSpace p n m A y → Determined p n m A y
unfolding InRowSpace Determined
row-space-determined p n m A y o s s' h =
    through n m A y o.0 o.1 s ⊙ dot-right n o.0 h ⊙ turn (through n m A y o.0 o.1 s')

pub kernel-undetermined : {p : ℕ} → Prime p → (n m : ℕ) (A : Matrix) (y z : Vector) → InKernel p n m A z → ¬ (dot m y z ≈⟨ p ⟩ 0) → Undetermined p n m A y
unfolding InKernel Undetermined
kernel-undetermined {p} prime n m A y z u g s v = (
  s',
  record {
    residues = λ j h. mod-lt (s j + t * z j) pos;
    slots = λ i h. times (A i) ⊙ same_refl (dot m (A i) s) ⊕ same_refl t ⊗ u i h ⊙ exact (omega arith);
    value =
        times y ⊙ exact (omega arith)
        ⊙ (i.1 ⊗ same_refl (v + (p - 1) * dot m y s)) ⊕ same_refl (dot m y s) ⊙ exact (omega arith) ⊙ minus v (dot m y s) pos;
  },
)
  where
    pos : 1 ≤ p
    pos = omega (arith, prime.two)

    i : (b : ℕ) × (dot m y z * b ≈⟨ p ⟩ 1)
    i = inverse prime (dot m y z) g

    t : ℕ
    t = i.0 * (v + (p - 1) * dot m y s)

    s' : Vector
    s' j = (s j + t * z j) % p

    times : (f : Vector) → dot m f s' ≈⟨ p ⟩ dot m f s + t * dot m f z
    times f =
        dot-right m f (λ j h. same-mod (s j + t * z j))
        ⊙ exact (dot-comm m f (λ j. s j + t * z j) ∙ dot-add m s (λ j. t * z j) f ∙ omega (arith, dot-scale m t z f, dot-comm m f s, ap (λ (q : ℕ). t * q) (dot-comm m f z)))

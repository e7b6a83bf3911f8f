-- Two settings, whatever their numbers, give the same slots exactly if they differ by a combination of the vectors of a basis of the kernel,
-- and that combination is known modulo p: it is their difference at the free columns.
use Prim.Native.Nat.{ℕ, ◌+◌, ◌-◌, ◌*◌, ◌<◌}
use native.Mathlib.Omega.{arith}
use Rattle.algebra.specs.Congruence.{◌≈⟨◌⟩◌}
use Rattle.algebra.specs.Sum.{dot}
use Rattle.algebra.specs.Matrix.{Vector, Matrix}
use Rattle.algebra.specs.RowSpace.{InKernel}
use Rattle.algebra.proofs.Congruence.{exact, turn, ◌⊙◌, ◌⊕◌, same_refl, minus, cancel, cancel-zero}
use Rattle.algebra.proofs.Dot.{dot-right, dot-add-right, dot-scale-right}
use Rattle.algebra.proofs.Kernel.{KernelBasis, combined-kernel, combined-free, kernel-combined}

module _ {p n m : ℕ} {A : Matrix} {d : ℕ} {F : ℕ → ℕ} {Z : ℕ → Vector} (basis : KernelBasis p n m A d F Z) (a b : Vector) where
  abbrev Alike : Type 0
  Alike = (i : ℕ) → i < n → dot m (A i) a ≈⟨ p ⟩ dot m (A i) b

  abbrev ShiftedBy : Vector → Type 0
  ShiftedBy c = (j : ℕ) → j < m → a j ≈⟨ p ⟩ b j + dot d c (λ l. Z l j)

  abbrev difference : Vector
  difference = λ j. a j + (p - 1) * b j

  difference-kernel : Alike → InKernel p n m A difference
  unfolding InKernel
  difference-kernel alike i h =
      cancel-zero (dot m (A i) b)
      (exact (dot-add-right m (A i) a (λ j. (p - 1) * b j)) ⊕ same_refl (dot m (A i) b)
      ⊙ exact (omega (arith, dot-scale-right m (p - 1) (A i) b))
      ⊙ minus (dot m (A i) a) (dot m (A i) b) basis.positive ⊙ alike i h)

  pub alike-shifted : Alike → (c : Vector) × ShiftedBy c
  alike-shifted alike = (
    λ l. difference (F l),
    λ j h.
        turn (minus (a j) (b j) basis.positive) ⊙ kernel-combined basis difference (difference-kernel alike) j h ⊕ same_refl (b j) ⊙ exact (omega arith),
  )

  pub shifted-alike : (c : Vector) → ShiftedBy c → Alike
  unfolding InKernel
  shifted-alike c shifted i h =
      dot-right m (A i) shifted
      ⊙ exact (dot-add-right m (A i) b (λ j. dot d c (λ l. Z l j)))
      ⊙ same_refl (dot m (A i) b) ⊕ combined-kernel basis c i h ⊙ exact (omega arith)

  pub shift-free : (c : Vector) → ShiftedBy c → (l : ℕ) → l < d → c l + b (F l) ≈⟨ p ⟩ a (F l)
  shift-free c shifted l h =
      turn (combined-free basis c l h) ⊕ same_refl (b (F l)) ⊙ exact (omega arith) ⊙ turn (shifted (F l) (basis.inside l h))

  pub shift-only : (c c' : Vector) → ShiftedBy c → ShiftedBy c' → (l : ℕ) → l < d → c l ≈⟨ p ⟩ c' l
  shift-only c c' shifted shifted' l h = cancel (b (F l)) (shift-free c shifted l h ⊙ turn (shift-free c' shifted' l h))

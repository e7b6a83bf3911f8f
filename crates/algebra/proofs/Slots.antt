-- Slot values are a question of the transposed matrix: a setting that gives them is an open answer there, a combination of slots that contradicts them a
-- closed one. So each is the only one of its form.
use mathlib.Core.Path.{◌≡◌}
use Prim.Native.Nat.{ℕ, ◌+◌, ◌-◌, ◌<◌}
use Rattle.algebra.specs.Congruence.{◌≈⟨◌⟩◌}
use Rattle.algebra.specs.Sum.{dot}
use Rattle.algebra.specs.Prime.{Prime}
use Rattle.algebra.specs.Matrix.{Vector, Matrix}
use Rattle.algebra.specs.RowSpace.{Combines, InKernel}
use Rattle.algebra.specs.ColumnSpace.{transpose, GivesSlots, InLeftKernel}
use Rattle.algebra.specs.Factors.{Factors}
use Rattle.algebra.specs.Answer.{OpenAnswer, ClosedAnswer}
use Rattle.algebra.specs.SlotAnswer.{SettingAnswer, ContradictionAnswer}
use Rattle.algebra.proofs.Congruence.{exact, ◌⊙◌}
use Rattle.algebra.proofs.Dot.{dot-comm}
use Rattle.algebra.proofs.Verdict.{not-both}
use Rattle.algebra.proofs.Unique.{open-unique, closed-unique}
use Rattle.algebra.proofs.Transpose.{transposed}
use Rattle.algebra.proofs.Kernel.{KernelBasis, factors-basis}

module _ (p n m : ℕ) (A : Matrix) where
  combines-slots : (h s : Vector) → GivesSlots p n m A h s → Combines p m n (transpose A) h s
  unfolding GivesSlots Combines
  combines-slots h s g i b = exact (dot-comm m s (A i)) ⊙ g i b

  transposed-kernel : (w : Vector) → InLeftKernel p n m A w → InKernel p m n (transpose A) w
  unfolding InLeftKernel InKernel
  transposed-kernel w u j b = exact (dot-comm n (λ i. A i j) w) ⊙ u j b

  -- slot values that some setting gives leave no w with w A = 0 and w h not 0
  pub no-contradiction : (h s w : Vector) → GivesSlots p n m A h s → InLeftKernel p n m A w → dot n w h ≈⟨ p ⟩ 0
  no-contradiction h s w g u = exact (dot-comm n w h) ⊙ not-both m n (transpose A) h s w (combines-slots h s g) (transposed-kernel w u)

  module _ (r : ℕ) where
    open-transposed : (C : ℕ → ℕ) (h s : Vector) → SettingAnswer p n m r A C h s → OpenAnswer p m n r (transpose A) C h s
    open-transposed C h s a = record { residues = a.residues; combines = combines-slots h s a.gives; others = a.others }

    closed-transposed : (R : ℕ → ℕ) (i : ℕ) (w : Vector) → ContradictionAnswer p n m r A R i w → ClosedAnswer p m n r (transpose A) R i w
    closed-transposed R i w a = record { residues = a.residues; kernel = transposed-kernel w a.kernel; pivot = a.pivot; one = a.one; others = a.others }

module _ {p : ℕ} (prime : Prime p) {n m r : ℕ} {A : Matrix} {R C : ℕ → ℕ} {L U : Matrix} (f : Factors p n m r A R C L U) where
  pub setting-unique : (h s s' : Vector) → SettingAnswer p n m r A C h s → SettingAnswer p n m r A C h s' → (t : ℕ) → t < m → s t ≡ s' t
  setting-unique h s s' a b = open-unique prime (transposed prime f) h s s' (open-transposed p n m A r C h s a) (open-transposed p n m A r C h s' b)

  pub contradiction-unique : (i : ℕ) (w w' : Vector) → ContradictionAnswer p n m r A R i w → ContradictionAnswer p n m r A R i w' → (t : ℕ) → t < n → w t ≡ w' t
  contradiction-unique i w w' a b = closed-unique prime (transposed prime f) i w w' (closed-transposed p n m A r R i w a) (closed-transposed p n m A r R i w' b)

  -- the rows after the first r of R are free: every w with w A = 0 is the combination of these by its own cells there, and by no other
  pub left-basis : (W : ℕ → Vector) → ((k : ℕ) → k < n - r → ContradictionAnswer p n m r A R (R (r + k)) (W k))
      → KernelBasis p m n (transpose A) (n - r) (λ k. R (r + k)) W
  left-basis W a = factors-basis prime (transposed prime f) W (λ k h. closed-transposed p n m A r R (R (r + k)) (W k) (a k h))

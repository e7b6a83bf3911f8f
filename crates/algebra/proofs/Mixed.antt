-- What is linear in a vector: its products, the open answer, and the remainder by the rows of U.
use mathlib.Core.Path.{◌≡◌, refl, ap, ◌∙◌}
use mathlib.Core.Logic.{◌↔◌}
use mathlib.Core.List.{List}
use Prim.Native.Nat.{ℕ, zero, suc, ◌+◌, ◌*◌, ◌%◌, ◌≤◌, ◌<◌}
use native.Mathlib.Nat.{mod-lt, mod-eq_of_lt}
use native.Mathlib.Omega.{arith}
use lib.ListN.{length}
use Rattle.lists.proofs.Tabulate.{length-tabulate, tabulate-at, tabulate-ext}
use Rattle.algebra.specs.Congruence.{◌≈⟨◌⟩◌}
use Rattle.algebra.specs.Sum.{dot}
use Rattle.algebra.specs.Prime.{Prime}
use Rattle.algebra.specs.Matrix.{Vector, Matrix, Permutation, vector}
use Rattle.algebra.specs.RowSpace.{Combines}
use Rattle.algebra.specs.Reduction.{reduced, AllZero}
use Rattle.algebra.specs.Answer.{OpenAnswer}
use Rattle.algebra.specs.Mixed.{mixed, mixed_list}
use Rattle.algebra.proofs.Congruence.{exact, turn, ◌⊙◌, ◌⊕◌, ◌⊗◌, same_refl, same-mod, cancel, equal-residues}
use Rattle.algebra.proofs.Inverse.{no-divisors}
use Rattle.algebra.proofs.Dot.{dot-eq, dot-left, dot-add, dot-scale}
use Rattle.algebra.proofs.Reduction.{taken, reduced-small, reduced-step}

-- ---- products

pub dot-mixed : {p : ℕ} (n a b : ℕ) (u v w : Vector) → dot n (mixed p a b u v) w ≈⟨ p ⟩ a * dot n u w + b * dot n v w
dot-mixed n a b u v w =
    dot-left n w (λ i h. same-mod (a * u i + b * v i))
    ⊙ exact (dot-add n (λ i. a * u i) (λ i. b * v i) w ∙ omega (arith, dot-scale n a u w, dot-scale n b v w))

-- ---- lists

module _ (k p a b : ℕ) (xs ys : List ℕ) where
  pub mixed-length : length (mixed_list k p a b xs ys) ≡ k
  mixed-length = length-tabulate k (mixed p a b (vector xs) (vector ys))

  pub mixed-at : (j : ℕ) → j < k → vector (mixed_list k p a b xs ys) j ≡ mixed p a b (vector xs) (vector ys) j
  mixed-at = tabulate-at k (mixed p a b (vector xs) (vector ys))

  pub mixed-small : 0 < p → (j : ℕ) → j < k → vector (mixed_list k p a b xs ys) j < p
  mixed-small pos j h = rw (mixed-at j h) (mod-lt (a * vector xs j + b * vector ys j) pos)

  pub mixed-same : (j : ℕ) → j < k → vector (mixed_list k p a b xs ys) j ≈⟨ p ⟩ a * vector xs j + b * vector ys j
  mixed-same j h = exact (mixed-at j h) ⊙ same-mod (a * vector xs j + b * vector ys j)

  -- in the other order
  pub mixed-turned : mixed_list k p a b xs ys ≡ mixed_list k p b a ys xs
  mixed-turned =
      tabulate-ext k (mixed p a b (vector xs) (vector ys)) (mixed p b a (vector ys) (vector xs))
      (λ j h. ap (λ (t : ℕ). t % p) (omega arith))

-- ---- open answers

pub open-mixed : {p n m r : ℕ} {A : Matrix} {R : ℕ → ℕ} (a b : ℕ) (y y' x x' : List ℕ) → 0 < p → Permutation n R
    → OpenAnswer p n m r A R (vector y) (vector x) → OpenAnswer p n m r A R (vector y') (vector x')
    → OpenAnswer p n m r A R (vector (mixed_list m p a b y y')) (vector (mixed_list n p a b x x'))
unfolding Combines
open-mixed {p} {n} {m} {A = A} {R} a b y y' x x' pos rows h h' =
    record {
      residues = mixed-small n p a b x x' pos;
      combines = λ j g.
          exact (dot-eq n {v = λ i. A i j} (mixed-at n p a b x x') (λ i f. refl))
          ⊙ dot-mixed n a b (vector x) (vector x') (λ i. A i j)
          ⊙ (same_refl a ⊗ h.combines j g) ⊕ (same_refl b ⊗ h'.combines j g)
          ⊙ turn (mixed-same m p a b y y' j g);
      others = λ i f g.
          mixed-at n p a b x x' (R i) (rows.below i g)
          ∙ ap (λ (t : ℕ). t % p) (omega (arith, ap (λ (t : ℕ). a * t) (h.others i f g), ap (λ (t : ℕ). b * t) (h'.others i f g)))
          ∙ mod-eq_of_lt pos;
    }

-- ---- the remainder

module _ (p : ℕ) (pos : 0 < p) (m r : ℕ) (C : Vector) (U : Matrix) (inside : (k : ℕ) → k < r → C k < m) (a b : ℕ) (y y' w : Vector)
    (small : (j : ℕ) → j < m → y j < p) (small' : (j : ℕ) → j < m → y' j < p) (small'' : (j : ℕ) → j < m → w j < p)
    (mix : (j : ℕ) → j < m → w j ≈⟨ p ⟩ a * y j + b * y' j) where
  step : (v : Vector) → ((j : ℕ) → j < m → v j < p) → (k : ℕ) → k < r → (j : ℕ) → reduced p C U (suc k) v j + reduced p C U k v (C k) * U k j ≈⟨ p ⟩ reduced p C U k v j
  unfolding taken
  step v sv = reduced-step p pos m r C U inside v sv

  pub reduced-mixed : (k : ℕ) → k ≤ r → (j : ℕ) → j < m → reduced p C U k w j ≈⟨ p ⟩ a * reduced p C U k y j + b * reduced p C U k y' j
  unfolding reduced
  reduced-mixed zero h j g = mix j g
  reduced-mixed (suc k) h j g =
      let before = reduced-mixed k (omega arith) in
      cancel (reduced p C U k w (C k) * U k j)
      (step w small'' k h j ⊙ before j g
      ⊙ turn ((same_refl a ⊗ step y small k h j) ⊕ (same_refl b ⊗ step y' small' k h j))
      ⊙ exact (omega arith)
      ⊙ same_refl (a * reduced p C U (suc k) y j + b * reduced p C U (suc k) y' j) ⊕ (turn (before (C k) (inside k h)) ⊗ same_refl (U k j)))

  -- where nothing remains of y, a remainder of w is 0 exactly where that of y' is
  pub reduced-zeros : Prime p → AllZero m (reduced p C U r y) → ¬ (b ≈⟨ p ⟩ 0) → (j : ℕ) → j < m → (reduced p C U r w j ≡ 0) ↔ (reduced p C U r y' j ≡ 0)
  unfolding AllZero
  reduced-zeros prime none other j g = (
    λ e. equal-residues (reduced-small p pos m r C U inside y' small' r j g) pos (no-divisors prime other (turn same ⊙ exact e)),
    λ e. equal-residues (reduced-small p pos m r C U inside w small'' r j g) pos (same ⊙ exact (ap (λ (t : ℕ). b * t) e ∙ omega arith)),
  )
    where
      same : reduced p C U r w j ≈⟨ p ⟩ b * reduced p C U r y' j
      same = reduced-mixed r (omega arith) j g ⊙ exact (omega (arith, ap (λ (t : ℕ). a * t) (none j g)))

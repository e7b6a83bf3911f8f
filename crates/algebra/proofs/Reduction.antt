-- What a vector becomes when it is reduced by the rows of U.
use mathlib.Core.Path.{◌≡◌, ap}
use Prim.Native.Nat.{ℕ, zero, suc, ◌+◌, ◌-◌, ◌*◌, ◌≤◌, ◌<◌}
use native.Mathlib.Nat.{mod-lt}
use native.Mathlib.Omega.{arith}
use Rattle.algebra.specs.Congruence.{◌≈⟨◌⟩◌}
use Rattle.algebra.specs.Sum.{dot}
use Rattle.algebra.specs.Matrix.{Vector, Matrix}
use Rattle.algebra.specs.Reduction.{reduced}
use Rattle.algebra.proofs.Congruence.{exact, turn, ◌⊙◌, ◌⊕◌, same_refl, same-mod, by-multiples, cancel, equal-residues}
use Rattle.algebra.proofs.Dot.{below_suc, dot-nil, dot-suc}

module _ (p : ℕ) (pos : 0 < p) (m r : ℕ) (C : ℕ → ℕ) (U : Matrix) (inside : (k : ℕ) → k < r → C k < m) (y : Vector) (small : (j : ℕ) → j < m → y j < p) where
  -- the multiple of row k that was taken away
  unfoldable pub taken : Vector
  taken k = reduced p C U k y (C k)

  pub reduced-small : (k : ℕ) → (j : ℕ) → j < m → reduced p C U k y j < p
  unfolding reduced
  reduced-small zero j h = small j h
  reduced-small (suc k) j h = mod-lt (reduced p C U k y j + (p - reduced p C U k y (C k)) * U k j) pos

  -- one step
  pub reduced-step : (k : ℕ) → k < r → (j : ℕ) → reduced p C U (suc k) y j + taken k * U k j ≈⟨ p ⟩ reduced p C U k y j
  unfolding reduced taken
  reduced-step k h j =
      same-mod (reduced p C U k y j + (p - taken k) * U k j) ⊕ same_refl (taken k * U k j)
      ⊙ by-multiples 0 (U k j) (go (p - taken k) (omega (arith, reduced-small k (C k) (inside k h))))
    where
      go : (d : ℕ) → d + taken k ≡ p → reduced p C U k y j + d * U k j + taken k * U k j + p * 0 ≡ reduced p C U k y j + p * U k j
      go d e = omega (arith, ap (λ (z : ℕ). z * U k j) e)

  -- y is the remainder and what was taken away
  pub reduced-split : (k : ℕ) → k ≤ r → (j : ℕ) → y j ≈⟨ p ⟩ reduced p C U k y j + dot k taken (λ l. U l j)
  unfolding reduced
  reduced-split zero h j = exact (omega (arith, dot-nil taken (λ l. U l j)))
  reduced-split (suc k) h j =
      reduced-split k (omega arith) j
      ⊙ turn (reduced-step k h j) ⊕ same_refl (dot k taken (λ l. U l j))
      ⊙ exact (omega (arith, dot-suc k taken (λ l. U l j)))

  module _ (left : (k j : ℕ) → j < k → k < r → U k (C j) ≡ 0) (unit : (k : ℕ) → k < r → U k (C k) ≡ 1) where
    -- the remainder is 0 at the pivot columns
    pivots : (k : ℕ) → k ≤ r → (l : ℕ) → l < k → reduced p C U k y (C l) ≈⟨ p ⟩ 0
    unfolding taken
    pivots zero h = λ l g. absurd (omega arith)
    pivots (suc k) h = below_suc (λ l. reduced p C U (suc k) y (C l) ≈⟨ p ⟩ 0) k last (λ l g. others l g ⊙ pivots k (omega arith) l g)
      where
        last : reduced p C U (suc k) y (C k) ≈⟨ p ⟩ 0
        last = cancel (taken k) (exact (omega (arith, ap (λ (z : ℕ). taken k * z) (unit k h))) ⊙ reduced-step k h (C k) ⊙ exact (omega arith))

        others : (l : ℕ) → l < k → reduced p C U (suc k) y (C l) ≈⟨ p ⟩ reduced p C U k y (C l)
        others l g = exact (omega (arith, ap (λ (z : ℕ). taken k * z) (left k l g h))) ⊙ reduced-step k h (C l)

    pub reduced-pivot : (l : ℕ) → l < r → reduced p C U r y (C l) ≡ 0
    reduced-pivot l h = equal-residues (reduced-small r (C l) (inside l h)) pos (pivots r (omega arith) l h)

-- A matrix with free columns, a kernel vector for each of them (1 there, 0 at the other free ones), and no kernel vector but 0 that is 0 at all of them:
-- every kernel vector is the combination of these by its own free cells, and by no other.
use mathlib.Core.Path.{◌≡◌, sym, ap, ◌∙◌}
use Prim.Native.Nat.{ℕ, ◌+◌, ◌-◌, ◌*◌, ◌%◌, ◌<◌, ◌≤◌}
use native.Mathlib.Nat.{mod-eq_of_lt}
use native.Mathlib.Decide.{ℕ_discrete}
use native.Mathlib.Omega.{arith}
use Rattle.algebra.specs.Congruence.{◌≈⟨◌⟩◌}
use Rattle.algebra.specs.Sum.{dot, δ}
use Rattle.algebra.specs.Prime.{Prime}
use Rattle.algebra.specs.Matrix.{Vector, Matrix}
use Rattle.algebra.specs.RowSpace.{InKernel}
use Rattle.algebra.specs.Factors.{Factors}
use Rattle.algebra.specs.Answer.{ClosedAnswer}
use Rattle.algebra.proofs.Congruence.{exact, turn, ◌⊙◌, ◌⊕◌, ◌⊗◌, same_refl, same-mod, minus, cancel-zero}
use Rattle.algebra.proofs.Dot.{dot-right, dot-none, dot-comm, dot-add-right, dot-scale-right, dot-assoc, dot-δ, δ-same, δ-other}
use Rattle.algebra.proofs.Unique.{kernel-columns}

-- d free columns F, and for each a kernel vector Z
pub record KernelBasis (p n m : ℕ) (A : Matrix) (d : ℕ) (F : ℕ → ℕ) (Z : ℕ → Vector) : Type 0 where
  pub positive : 1 ≤ p
  pub inside : (l : ℕ) → l < d → F l < m
  pub kernel : (l : ℕ) → l < d → InKernel p n m A (Z l)
  pub cells : (l k : ℕ) → l < d → k < d → Z l (F k) ≈⟨ p ⟩ δ k l
  pub only : (z : Vector) → InKernel p n m A z → ((l : ℕ) → l < d → z (F l) ≈⟨ p ⟩ 0) → (j : ℕ) → j < m → z j ≈⟨ p ⟩ 0

module _ {p n m : ℕ} {A : Matrix} {d : ℕ} {F : ℕ → ℕ} {Z : ℕ → Vector} (b : KernelBasis p n m A d F Z) where
  -- the combination c of the kernel vectors
  abbrev pub combined : Vector → Vector
  combined c = λ j. dot d c (λ l. Z l j)

  pub combined-kernel : (c : Vector) → InKernel p n m A (combined c)
  unfolding InKernel
  combined-kernel c i h =
      exact (dot-comm m (A i) (combined c)) ⊙ exact (dot-assoc d m c Z (A i))
      ⊙ dot-right d c {v' = λ l. 0} (λ l g. exact (dot-comm m (Z l) (A i)) ⊙ b.kernel l g i h)
      ⊙ exact (dot-none d c)

  -- its free cells are c
  pub combined-free : (c : Vector) (k : ℕ) → k < d → combined c (F k) ≈⟨ p ⟩ c k
  combined-free c k h = dot-right d c (λ l g. b.cells l k g h) ⊙ exact (dot-comm d c (δ k)) ⊙ exact (dot-δ d k c h)

  pub kernel-combined : (z : Vector) → InKernel p n m A z → (j : ℕ) → j < m → z j ≈⟨ p ⟩ dot d (λ l. z (F l)) (λ l. Z l j)
  unfolding InKernel
  kernel-combined z u j h = turn (minus (z j) (combined c j) b.positive) ⊙ b.only rest rest-kernel rest-free j h ⊕ same_refl (combined c j) ⊙ exact (omega arith)
    where
      c : Vector
      c l = z (F l)

      rest : Vector
      rest t = z t + (p - 1) * combined c t

      rest-kernel : (i : ℕ) → i < n → dot m (A i) rest ≈⟨ p ⟩ 0
      rest-kernel i g =
          exact (dot-add-right m (A i) z (λ t. (p - 1) * combined c t))
          ⊙ u i g ⊕ (exact (dot-scale-right m (p - 1) (A i) (combined c)) ⊙ same_refl (p - 1) ⊗ combined-kernel c i g ⊙ exact {y = 0} (omega arith)) ⊙ exact (omega arith)

      rest-free : (l : ℕ) → l < d → rest (F l) ≈⟨ p ⟩ 0
      rest-free l g = cancel-zero (combined c (F l)) (minus (z (F l)) (combined c (F l)) b.positive ⊙ turn (combined-free c l g))

  pub kernel-by-one : (z c : Vector) → ((j : ℕ) → j < m → z j ≈⟨ p ⟩ dot d c (λ l. Z l j)) → (l : ℕ) → l < d → c l ≈⟨ p ⟩ z (F l)
  kernel-by-one z c h l g = turn (h (F l) (b.inside l g) ⊙ combined-free c l g)

-- the columns after the first r of C are free, where Z has the answers to closed questions at them
pub factors-basis : {p : ℕ} → Prime p → {n m r : ℕ} {A : Matrix} {R C : ℕ → ℕ} {L U : Matrix} → Factors p n m r A R C L U → (Z : ℕ → Vector)
    → ((l : ℕ) → l < m - r → ClosedAnswer p n m r A C (C (r + l)) (Z l)) → KernelBasis p n m A (m - r) (λ l. C (r + l)) Z
unfolding InKernel
factors-basis {p} prime {n} {m} {r} {A} {R} {C} f Z answers =
    record {
      positive = omega (arith, prime.two);
      inside = λ l h. f.columns.below (r + l) (omega arith);
      kernel = λ l h. (answers l h).kernel;
      cells = λ l k h g. exact (cell l k h g (ℕ_discrete k l));
      only = λ z u none j h. turn (same-mod (z j)) ⊙ kernel-columns prime f (λ t. z t % p) (rest z none) (reduced-kernel z u) j h;
    }
  where
    cell : (l k : ℕ) → l < m - r → k < m - r → Dec (k ≡ l) → Z l (C (r + k)) ≡ δ k l
    cell l k h g (yes e) = rw e ((answers l h).one ∙ sym (δ-same l))
    cell l k h g (no e) =
        (answers l h).others (r + k) (omega arith) (omega arith) (λ q. e (omega (arith, f.columns.apart (r + k) (r + l) (omega arith) (omega arith) q)))
        ∙ sym (δ-other k l e)

    -- kernel vectors may be reduced modulo p
    reduced-kernel : (z : Vector) → InKernel p n m A z → InKernel p n m A (λ t. z t % p)
    reduced-kernel z u i h = dot-right m (A i) (λ t b. same-mod (z t)) ⊙ u i h

    rest : (z : Vector) → ((l : ℕ) → l < m - r → z (C (r + l)) ≈⟨ p ⟩ 0) → (l : ℕ) → r ≤ l → l < m → z (C l) % p ≡ 0
    rest z none l a b =
        let q : r + (l - r) ≡ l = omega arith in
        ap (λ (i : ℕ). z (C i) % p) (sym q) ∙ (none (l - r) (omega arith)).same ∙ mod-eq_of_lt (omega (arith, prime.two))

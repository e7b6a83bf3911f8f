-- A triangular matrix with no zero on its diagonal: its equations have a solution, and one only.
use mathlib.Core.Path.{◌≡◌, refl, sym, ap, ◌∙◌}
use Prim.Native.Nat.{ℕ, zero, suc, ◌+◌, ◌-◌, ◌*◌, ◌≤◌, ◌<◌}
use native.Mathlib.Nat.{lt-suc_self, le_step}
use native.Mathlib.Omega.{arith}
use Rattle.algebra.specs.Congruence.{◌≈⟨◌⟩◌}
use Rattle.algebra.specs.Sum.{dot, δ}
use Rattle.algebra.specs.Prime.{Prime}
use Rattle.algebra.proofs.Congruence.{exact, turn, ◌⊙◌, ◌⊕◌, ◌⊗◌, same_refl, minus}
use Rattle.algebra.proofs.Inverse.{inverse, no-divisors}
use Rattle.algebra.proofs.Dot.{below_suc, dot-suc, dot-eq, dot-cong, dot-vanish, dot-zero, δ-same, δ-other}

-- r rows and columns, 0 left of the diagonal and not 0 on it
pub record Triangular (p r : ℕ) (T : ℕ → ℕ → ℕ) : Type 0 where
  pub left : (k l : ℕ) → l < k → k < r → T k l ≡ 0
  pub diagonal : (k : ℕ) → k < r → ¬ (T k k ≈⟨ p ⟩ 0)

-- v solves T v = b, and is 0 past its r places
pub record Solution (p r : ℕ) (T : ℕ → ℕ → ℕ) (b : ℕ → ℕ) : Type 0 where
  pub v : ℕ → ℕ
  pub beyond : (l : ℕ) → r ≤ l → v l ≡ 0
  pub solves : (k : ℕ) → k < r → dot r (T k) v ≈⟨ p ⟩ b k

module _ {p : ℕ} (prime : Prime p) (T : ℕ → ℕ → ℕ) where
  less : {r : ℕ} → Triangular p (suc r) T → Triangular p r T
  less t = record { left = λ k l h g. t.left k l h (le_step g); diagonal = λ k h. t.diagonal k (le_step h) }

  -- T v = 0 only for v = 0
  pub right-kernel : (r : ℕ) → Triangular p r T → (v : ℕ → ℕ) → ((k : ℕ) → k < r → dot r (T k) v ≈⟨ p ⟩ 0) → (l : ℕ) → l < r → v l ≈⟨ p ⟩ 0
  right-kernel zero t v h = λ l g. absurd (omega arith)
  right-kernel (suc r) t v h = below_suc (λ l. v l ≈⟨ p ⟩ 0) r last (right-kernel r (less t) v others)
    where
      last : v r ≈⟨ p ⟩ 0
      last =
          no-divisors prime (t.diagonal r (lt-suc_self r))
          (exact (omega (arith, dot-suc r (T r) v, dot-vanish r {u = T r} v (λ i b. t.left r i b (lt-suc_self r)))) ⊙ h r (lt-suc_self r))

      others : (k : ℕ) → k < r → dot r (T k) v ≈⟨ p ⟩ 0
      others k b =
          exact (omega arith) ⊙ exact {x = dot r (T k) v} refl ⊕ exact {x = T k r} refl ⊗ turn last ⊙ exact (sym (dot-suc r (T k) v)) ⊙ h k (le_step b)

  -- d T = 0 only for d = 0
  pub left-kernel : (r : ℕ) → Triangular p r T → (d : ℕ → ℕ) → ((l : ℕ) → l < r → dot r d (λ k. T k l) ≈⟨ p ⟩ 0) → (k : ℕ) → k < r → d k ≈⟨ p ⟩ 0
  left-kernel zero t d h = λ k g. absurd (omega arith)
  left-kernel (suc r) t d h = let before = left-kernel r (less t) d others in below_suc (λ k. d k ≈⟨ p ⟩ 0) r (last before) before
    where
      others : (l : ℕ) → l < r → dot r d (λ k. T k l) ≈⟨ p ⟩ 0
      others l b =
          exact (omega (arith, dot-suc r d (λ k. T k l), ap (λ (z : ℕ). d r * z) (t.left r l b (lt-suc_self r)))) ⊙ h l (le_step b)

      last : ((k : ℕ) → k < r → d k ≈⟨ p ⟩ 0) → d r ≈⟨ p ⟩ 0
      last g =
          no-divisors prime (t.diagonal r (lt-suc_self r))
          (exact (omega (arith, dot-zero r (λ k. T k r)))
          ⊙ turn (dot-cong r {v = λ k. T k r} g (λ k b. same_refl (T k r))) ⊕ same_refl (d r * T r r)
          ⊙ exact (sym (dot-suc r d (λ k. T k r))) ⊙ h r (lt-suc_self r))

  -- from the first r rows, less what x in the last place combines them, to r + 1 rows
  extend : (r : ℕ) → Triangular p (suc r) T → (b : ℕ → ℕ) (x : ℕ) → T r r * x ≈⟨ p ⟩ b r
      → Solution p r T (λ k. b k + (p - 1) * (T k r * x)) → Solution p (suc r) T b
  extend r t b x h rest =
      record {
        v = v;
        beyond = λ l g. omega (arith, rest.beyond l (omega arith), ap (λ (z : ℕ). x * z) (δ-other r l (omega arith)));
        solves = below_suc (λ k. dot (suc r) (T k) v ≈⟨ p ⟩ b k) r last others;
      }
    where
      v : ℕ → ℕ
      v l = rest.v l + x * δ r l

      row : (k : ℕ) → dot (suc r) (T k) v ≡ dot r (T k) rest.v + T k r * x
      row k =
          dot-suc r (T k) v
          ∙ omega (
            arith,
            dot-eq r {u = T k} {v = v} {v' = rest.v} (λ i g. refl) (λ i g. omega (arith, ap (λ (z : ℕ). x * z) (δ-other r i (omega arith)))),
            ap (λ (z : ℕ). T k r * z) (rest.beyond r (omega arith)),
            ap (λ (z : ℕ). T k r * x * z) (δ-same r),
          )

      last : dot (suc r) (T r) v ≈⟨ p ⟩ b r
      last = exact (row r ∙ omega (arith, dot-vanish r {u = T r} rest.v (λ i g. t.left r i g (lt-suc_self r)))) ⊙ h

      others : (k : ℕ) → k < r → dot (suc r) (T k) v ≈⟨ p ⟩ b k
      others k g = exact (row k) ⊙ rest.solves k g ⊕ same_refl (T k r * x) ⊙ minus (b k) (T k r * x) (omega (arith, prime.two))

  -- T v = b has a solution, by substitution from the last row up
  pub solve : (r : ℕ) → Triangular p r T → (b : ℕ → ℕ) → Solution p r T b
  solve zero t b = record { v = λ l. 0; beyond = λ l h. refl; solves = λ k h. absurd (omega arith) }
  solve (suc r) t b =
      let s = inverse prime (T r r) (t.diagonal r (lt-suc_self r)) in
      let x = s.0 * b r in
      extend r t b x (exact (omega arith) ⊙ s.1 ⊗ same_refl (b r) ⊙ exact (omega arith)) (solve r (less t) (λ k. b k + (p - 1) * (T k r * x)))

-- The number of rows of U is the rank.
use mathlib.Core.Path.{◌≡◌, refl, sym, ap, ◌∙◌}
use mathlib.Core.Logic.{◌≢◌, ◌⊎◌, inl, inr}
use Prim.Native.Nat.{ℕ, zero, suc, ◌+◌, ◌-◌, ◌*◌, ◌≤◌, ◌<◌}
use native.Mathlib.Decide.{ℕ_discrete, dec_le}
use native.Mathlib.Omega.{arith}
use Rattle.algebra.specs.Congruence.{◌≈⟨◌⟩◌}
use Rattle.algebra.specs.Sum.{dot, δ, place}
use Rattle.algebra.specs.Prime.{Prime}
use Rattle.algebra.specs.Matrix.{Vector, Matrix, Distinct}
use Rattle.algebra.specs.Rank.{Independent, Rank}
use Rattle.algebra.specs.Factors.{Factors}
use Rattle.algebra.proofs.Congruence.{exact, turn, ◌⊙◌, ◌⊕◌, ◌⊗◌, same_refl, minus, zero?}
use Rattle.algebra.proofs.Inverse.{one_not_zero, inverse}
use Rattle.algebra.proofs.Dot.{below_suc, dot-left, dot-right, dot-none, dot-comm, dot-add, dot-scale, dot-add-right, dot-scale-right, dot-zero, dot-assoc, dot-δ, dot-place, place_at, δ-same, δ-other}
use Rattle.algebra.proofs.Triangular.{right-kernel, left-kernel}
use Rattle.algebra.proofs.Finite.{onto, search-first, choose}
use Rattle.algebra.proofs.Verdict.{L-triangular, U-triangular, combination}

-- a combination c of s vectors of r entries is zero, and c is not
pub record Dependence (p r s : ℕ) (M : Matrix) : Type 0 where
  pub c : Vector
  pub vanishes : (k : ℕ) → k < r → dot s c (λ a. M a k) ≈⟨ p ⟩ 0
  pub at : ℕ
  pub within : at < s
  pub used : ¬ (c at ≈⟨ p ⟩ 0)

module _ {p : ℕ} (prime : Prime p) where
  pos : 1 ≤ p
  pos = omega (arith, prime.two)

  -- numbers below s other than a₀, with s in its place
  swap : ℕ → ℕ → ℕ → ℕ
  swap s a₀ a = elim (ℕ_discrete a a₀) [ yes e ↦ s | no e ↦ a ]

  swap-cases : (s a₀ a : ℕ) → ((a ≡ a₀) × (swap s a₀ a ≡ s)) ⊎ ((a ≢ a₀) × (swap s a₀ a ≡ a))
  unfolding swap
  swap-cases s a₀ a = go (ℕ_discrete a a₀)
    where
      go : (d : Dec (a ≡ a₀)) → let q : ℕ = elim d [ yes e ↦ s | no e ↦ a ] in ((a ≡ a₀) × (q ≡ s)) ⊎ ((a ≢ a₀) × (q ≡ a))
      go (yes e) = inl (e, refl)
      go (no e) = inr (e, refl)

  swap-distinct : (s a₀ : ℕ) → Distinct s (suc s) (swap s a₀)
  swap-distinct s a₀ = record { below = λ a h. low a h (swap-cases s a₀ a); apart = λ a b h g e. inj a b h g e (swap-cases s a₀ a) (swap-cases s a₀ b) }
    where
      low : (a : ℕ) → a < s → ((a ≡ a₀) × (swap s a₀ a ≡ s)) ⊎ ((a ≢ a₀) × (swap s a₀ a ≡ a)) → swap s a₀ a < suc s
      low a h (inl c) = omega arith
      low a h (inr c) = omega arith

      inj : (a b : ℕ) → a < s → b < s → swap s a₀ a ≡ swap s a₀ b
          → ((a ≡ a₀) × (swap s a₀ a ≡ s)) ⊎ ((a ≢ a₀) × (swap s a₀ a ≡ a))
          → ((b ≡ a₀) × (swap s a₀ b ≡ s)) ⊎ ((b ≢ a₀) × (swap s a₀ b ≡ b)) → a ≡ b
      inj a b h g e (inl c) (inl d) = omega arith
      inj a b h g e (inl c) (inr d) = omega arith
      inj a b h g e (inr c) (inl d) = omega arith
      inj a b h g e (inr c) (inr d) = omega arith

  swap-other : (s a₀ a : ℕ) → a < s → a₀ ≢ swap s a₀ a
  swap-other s a₀ a h e = go (swap-cases s a₀ a)
    where
      go : ((a ≡ a₀) × (swap s a₀ a ≡ s)) ⊎ ((a ≢ a₀) × (swap s a₀ a ≡ a)) → ⊥
      go (inl c) = omega arith
      go (inr c) = omega arith

  -- one column more, where the vector a₀ is not 0: it is taken from the others
  multiple : (r s : ℕ) (M : Matrix) (a₀ b : ℕ) → Vector
  multiple r s M a₀ b a = (p - 1) * (M (swap s a₀ a) r * b)

  others : (r s : ℕ) (M : Matrix) (a₀ b : ℕ) → Matrix
  others r s M a₀ b a k = M (swap s a₀ a) k + M a₀ k * multiple r s M a₀ b a

  eliminate : (r s : ℕ) (M : Matrix) (a₀ b : ℕ) → a₀ < suc s → M a₀ r * b ≈⟨ p ⟩ 1
      → Dependence p r s (others r s M a₀ b) → Dependence p (suc r) (suc s) M
  unfolding others multiple
  eliminate r s M a₀ b h g d =
      record {
        c = c;
        vanishes = below_suc (λ k. dot (suc s) c (λ a. M a k) ≈⟨ p ⟩ 0) r last (λ k b. exact (times k) ⊙ d.vanishes k b);
        at = swap s a₀ d.at;
        within = (swap-distinct s a₀).below d.at d.within;
        used = λ e. d.used (exact (sym here) ⊙ e);
      }
    where
      q : Vector
      q = multiple r s M a₀ b

      c : Vector
      c t = place s (swap s a₀) d.c t + dot s d.c q * δ a₀ t

      times : (k : ℕ) → dot (suc s) c (λ a. M a k) ≡ dot s d.c (λ a. others r s M a₀ b a k)
      times k =
          dot-add (suc s) (place s (swap s a₀) d.c) (λ t. dot s d.c q * δ a₀ t) (λ a. M a k)
          ∙ omega (
            arith,
            dot-place s (suc s) (swap s a₀) d.c (λ a. M a k) (swap-distinct s a₀).below,
            dot-scale (suc s) (dot s d.c q) (δ a₀) (λ a. M a k),
            ap (λ (z : ℕ). dot s d.c q * z) (dot-δ (suc s) a₀ (λ a. M a k) h),
            dot-add-right s d.c (λ a. M (swap s a₀ a) k) (λ a. M a₀ k * q a),
            dot-scale-right s (M a₀ k) d.c q,
          )

      gone : (a : ℕ) → others r s M a₀ b a r ≈⟨ p ⟩ 0
      gone a =
          exact (omega arith)
          ⊙ same_refl (M (swap s a₀ a) r) ⊕ same_refl ((p - 1) * M (swap s a₀ a) r) ⊗ g
          ⊙ exact (omega arith) ⊙ minus 0 (M (swap s a₀ a) r) pos

      last : dot (suc s) c (λ a. M a r) ≈⟨ p ⟩ 0
      last = exact (times r) ⊙ dot-right s d.c {v' = λ a. 0} (λ a b. gone a) ⊙ exact (dot-none s d.c)

      here : c (swap s a₀ d.at) ≡ d.c d.at
      here =
          omega (
            arith,
            place_at s (suc s) (swap s a₀) d.c (swap-distinct s a₀) d.at d.within,
            ap (λ (z : ℕ). dot s d.c q * z) (δ-other a₀ (swap s a₀ d.at) (swap-other s a₀ d.at d.within)),
          )

  -- more than r vectors of r entries have a combination that is zero
  pub dependent : (r s : ℕ) → r < s → (M : Matrix) → Dependence p r s M
  dependent zero s h M =
      record { c = δ 0; vanishes = λ k g. absurd (omega arith); at = 0; within = h; used = λ e. one_not_zero prime (exact (sym (δ-same 0)) ⊙ e) }
  dependent (suc r) zero h M = absurd (omega arith)
  dependent (suc r) (suc s) h M =
      go (search-first (λ a. M a r ≈⟨ p ⟩ 0) (λ a. zero? (M a r)) (suc s)) (dependent r s (omega arith)) (dependent r (suc s) (omega arith) M)
    where
      go : ((a : ℕ) → a < suc s → M a r ≈⟨ p ⟩ 0) ⊎ ((a : ℕ) × (a < suc s) × (¬ (M a r ≈⟨ p ⟩ 0)) × ((i : ℕ) → i < a → M i r ≈⟨ p ⟩ 0))
          → ((N : Matrix) → Dependence p r s N) → Dependence p r (suc s) M → Dependence p (suc r) (suc s) M
      go (inl zeros) smaller d =
          record {
            c = d.c;
            vanishes = below_suc (λ k. dot (suc s) d.c (λ a. M a k) ≈⟨ p ⟩ 0) r (dot-right (suc s) d.c {v' = λ a. 0} zeros ⊙ exact (dot-none (suc s) d.c)) d.vanishes;
            at = d.at;
            within = d.within;
            used = d.used;
          }
      go (inr found) smaller d =
          let a₀ = found.0 in
          let i = inverse prime (M a₀ r) found.2 in
          eliminate r s M a₀ i.0 found.1 i.1 (smaller (others r s M a₀ i.0))

module _ {p : ℕ} (prime : Prime p) {n m r : ℕ} {A : Matrix} {R C : ℕ → ℕ} {L U : Matrix} (f : Factors p n m r A R C L U) where
  -- the pivot rows are independent
  pub pivots-independent : Independent p m A r R
  unfolding Independent
  pivots-independent c h = right-kernel prime (λ k i. L i k) r (L-triangular prime f) c (λ k g. exact (dot-comm r (λ i. L i k) c) ⊙ d-zero k g)
    where
      d-zero : (k : ℕ) → k < r → dot r c (λ i. L i k) ≈⟨ p ⟩ 0
      d-zero =
          left-kernel prime (λ k l. U k (C l)) r (U-triangular prime f) (λ k. dot r c (λ i. L i k))
          (λ l g. let b : C l < m = f.columns.below l (omega (arith, f.rank-columns)) in turn (combination prime f c (C l) b) ⊙ h (C l) b)

  -- and no more rows are
  pub most : (s : ℕ) (w : ℕ → ℕ) → ((a : ℕ) → a < s → w a < n) → Independent p m A s w → s ≤ r
  unfolding Independent
  most s w within ind = go (dec_le s r)
    where
      -- where each row stands in R
      stands : (g : ℕ → ℕ) × ((a : ℕ) → a < s → (g a < n) × (R (g a) ≡ w a))
      stands = choose (λ a i. (i < n) × (R i ≡ w a)) s (λ a h. let q = onto n R f.rows (w a) (within a h) in (q.0, (q.1, q.2)))

      M : Matrix
      M a k = L (stands.0 a) k

      zero_row : (c : Vector) → ((k : ℕ) → k < r → dot s c (λ a. M a k) ≈⟨ p ⟩ 0) → (j : ℕ) → j < m → dot s c (λ a. A (w a) j) ≈⟨ p ⟩ 0
      zero_row c h j b =
          dot-right s c (λ a g. let e : R (stands.0 a) ≡ w a = (stands.1 a g).1 in rw (← e) (f.product (stands.0 a) j (stands.1 a g).0 b))
          ⊙ exact (sym (dot-assoc s r c M (λ k. U k j)))
          ⊙ dot-left r {u' = λ k. 0} (λ k. U k j) h ⊙ exact (dot-zero r (λ k. U k j))

      go : Dec (s ≤ r) → s ≤ r
      go (yes h) = h
      go (no h) = let d = dependent prime r s (omega arith) M in absurd (d.used (ind d.c (zero_row d.c d.vanishes) d.at d.within))

  pub rank : Rank p n m A r
  rank =
      record {
        rows = R;
        distinct = record { below = λ a h. f.rows.below a (omega (arith, f.rank-rows)); apart = λ a b h g e. f.rows.apart a b (omega (arith, f.rank-rows)) (omega (arith, f.rank-rows)) e };
        independent = pivots-independent;
        greatest = λ s w d ind. most s w d.below ind;
      }

-- A basis of the kernel of A, and a row y that does not give each of its vectors 0: of the kernel of A with the row y a basis has one vector less.
--   with_row n A y    A with the row y after its n rows
--   rows ..           what is said of its rows is said of those of A and of y
--   narrowed          its kernel has the vectors of A's but one, each less so many times that one that y gives 0
--   differing         there is such a vector, where y does not give every kernel vector 0
use mathlib.Core.Path.{◌≡◌, refl, sym, ap, subst, ◌∙◌}
use mathlib.Core.Logic.{◌≢◌, ◌⊎◌, inl, inr}
use Prim.Native.Nat.{ℕ, suc, ◌+◌, ◌-◌, ◌*◌, ◌≤◌, ◌<◌}
use native.Mathlib.Nat.{le_step, lt-suc_self}
use native.Mathlib.Decide.{ℕ_discrete, dec_lt}
use native.Mathlib.Omega.{arith}
use Rattle.algebra.specs.Congruence.{◌≈⟨◌⟩◌}
use Rattle.algebra.specs.Sum.{dot, δ}
use Rattle.algebra.specs.Prime.{Prime}
use Rattle.algebra.specs.Matrix.{Vector, Matrix}
use Rattle.algebra.specs.RowSpace.{InKernel}
use Rattle.algebra.proofs.Congruence.{exact, turn, ◌⊙◌, ◌⊕◌, ◌⊗◌, same_refl, zero?, minus, cancel-zero}
use Rattle.algebra.proofs.Inverse.{inverse, no-divisors}
use Rattle.algebra.proofs.Dot.{below_suc, dot-left, dot-right, dot-none, dot-comm, dot-scale, dot-add-right, dot-scale-right, dot-assoc, dot-δ, δ-same, δ-other}
use Rattle.algebra.proofs.Finite.{search-first}
use Rattle.algebra.proofs.Kernel.{KernelBasis, kernel-combined}

-- ---- the numbers but k

pub skip : ℕ → ℕ → ℕ
skip k l = elim (dec_lt l k) [ yes h ↦ l | no h ↦ suc l ]

skip-cases : (k l : ℕ) → ((l < k) × (skip k l ≡ l)) ⊎ ((k ≤ l) × (skip k l ≡ suc l))
unfolding skip
skip-cases k l = go (dec_lt l k)
  where
    go : (d : Dec (l < k)) → let c : ℕ = elim d [ yes h ↦ l | no h ↦ suc l ] in ((l < k) × (c ≡ l)) ⊎ ((k ≤ l) × (c ≡ suc l))
    go (yes h) = inl (h, refl)
    go (no h) = inr (omega arith, refl)

skip_below : (d k l : ℕ) → l < d - 1 → skip k l < d
skip_below d k l h = go (skip-cases k l)
  where
    go : ((l < k) × (skip k l ≡ l)) ⊎ ((k ≤ l) × (skip k l ≡ suc l)) → skip k l < d
    go (inl c) = omega arith
    go (inr c) = omega arith

skip-not : (k l : ℕ) → skip k l ≢ k
skip-not k l e = go (skip-cases k l)
  where
    go : ¬ (((l < k) × (skip k l ≡ l)) ⊎ ((k ≤ l) × (skip k l ≡ suc l)))
    go (inl c) = absurd (omega arith)
    go (inr c) = absurd (omega arith)

skip-inj : (k a b : ℕ) → skip k a ≡ skip k b → a ≡ b
skip-inj k a b e = go (skip-cases k a) (skip-cases k b)
  where
    go : ((a < k) × (skip k a ≡ a)) ⊎ ((k ≤ a) × (skip k a ≡ suc a)) → ((b < k) × (skip k b ≡ b)) ⊎ ((k ≤ b) × (skip k b ≡ suc b)) → a ≡ b
    go (inl c) (inl d) = omega arith
    go (inl c) (inr d) = omega arith
    go (inr c) (inl d) = omega arith
    go (inr c) (inr d) = omega arith

skip-δ : (k a b : ℕ) → δ (skip k a) (skip k b) ≡ δ a b
skip-δ k a b = go (ℕ_discrete a b)
  where
    go : Dec (a ≡ b) → δ (skip k a) (skip k b) ≡ δ a b
    go (yes e) = rw e (δ-same (skip k b) ∙ sym (δ-same b))
    go (no e) = δ-other (skip k a) (skip k b) (λ f. e (skip-inj k a b f)) ∙ sym (δ-other a b e)

skip_all : (P : ℕ → Type 0) (d k : ℕ) → k < d → ((l : ℕ) → l < d - 1 → P (skip k l)) → (t : ℕ) → t < d → t ≢ k → P t
skip_all P d k b all t h e = go (skip-cases k t) (skip-cases k (t - 1))
  where
    go : ((t < k) × (skip k t ≡ t)) ⊎ ((k ≤ t) × (skip k t ≡ suc t))
        → ((t - 1 < k) × (skip k (t - 1) ≡ t - 1)) ⊎ ((k ≤ t - 1) × (skip k (t - 1) ≡ suc (t - 1))) → P t
    go (inl c) q = subst P c.1 (all t (omega arith))
    go (inr c) (inl q) = absurd (omega arith)
    go (inr c) (inr q) = let f : skip k (t - 1) ≡ t = omega arith in subst P f (all (t - 1) (omega arith))

-- ---- A with the row y after its n rows

row_by : (A : Matrix) (y : Vector) (n i : ℕ) → Dec (i < n) → Vector
row_by A y n i (yes h) = A i
row_by A y n i (no h) = y

pub with_row : ℕ → Matrix → Vector → Matrix
with_row n A y = λ i. row_by A y n i (dec_lt i n)

module _ (n : ℕ) (A : Matrix) (y : Vector) where
  row_old : (i : ℕ) → i < n → with_row n A y i ≡ A i
  unfolding with_row row_by
  row_old i h = go (dec_lt i n)
    where
      go : (d : Dec (i < n)) → row_by A y n i d ≡ A i
      go (yes k) = refl
      go (no k) = absurd (k h)

  row_new : with_row n A y n ≡ y
  unfolding with_row row_by
  row_new = go (dec_lt n n)
    where
      go : (d : Dec (n < n)) → row_by A y n n d ≡ y
      go (yes k) = absurd (omega arith)
      go (no k) = refl

  pub rows : (P : Vector → Type 0) → ((i : ℕ) → i < n → P (A i)) → P y → (i : ℕ) → i < suc n → P (with_row n A y i)
  rows P old new = below_suc (λ i. P (with_row n A y i)) n (subst P (sym row_new) new) (λ i h. subst P (sym (row_old i h)) (old i h))

  pub rows-old : (P : Vector → Type 0) → ((i : ℕ) → i < suc n → P (with_row n A y i)) → (i : ℕ) → i < n → P (A i)
  rows-old P all i h = subst P (row_old i h) (all i (le_step h))

  pub rows_new : (P : Vector → Type 0) → ((i : ℕ) → i < suc n → P (with_row n A y i)) → P y
  rows_new P all = subst P row_new (all n (lt-suc_self n))

-- ---- its kernel has one vector less

module _ {p : ℕ} (prime : Prime p) {n m d : ℕ} {A : Matrix} {F : ℕ → ℕ} {Z : ℕ → Vector} (basis : KernelBasis p n m A d F Z) (y : Vector) where
  module _ (k : ℕ) (inside : k < d) (differs : ¬ (dot m y (Z k) ≈⟨ p ⟩ 0)) where
    inv : (b : ℕ) × (dot m y (Z k) * b ≈⟨ p ⟩ 1)
    inv = inverse prime (dot m y (Z k)) differs

    times : ℕ → ℕ
    times l = dot m y (Z (skip k l)) * inv.0

    -- Z less so many times vector k that y gives 0
    pub Z' : ℕ → Vector
    Z' l j = Z (skip k l) j + (p - 1) * (times l * Z k j)

    Z'-dot : (l : ℕ) (u : Vector) → dot m u (Z' l) ≡ dot m u (Z (skip k l)) + (p - 1) * (times l * dot m u (Z k))
    unfolding Z'
    Z'-dot l u =
        dot-add-right m u (Z (skip k l)) (λ j. (p - 1) * (times l * Z k j))
        ∙ ap (λ (q : ℕ). dot m u (Z (skip k l)) + q)
        (dot-scale-right m (p - 1) u (λ j. times l * Z k j) ∙ ap (λ (q : ℕ). (p - 1) * q) (dot-scale-right m (times l) u (Z k)))

    -- p - 1 times something that is 0
    no_more : (x : ℕ) {q : ℕ} (t : ℕ) → q ≈⟨ p ⟩ 0 → x + (p - 1) * (t * q) ≈⟨ p ⟩ x
    no_more x t e = same_refl x ⊕ (same_refl (p - 1) ⊗ (same_refl t ⊗ e)) ⊙ exact (omega arith)

    Z'-old : (l : ℕ) → l < d - 1 → (i : ℕ) → i < n → dot m (A i) (Z' l) ≈⟨ p ⟩ 0
    unfolding InKernel
    Z'-old l h i g =
        exact (Z'-dot l (A i)) ⊙ no_more (dot m (A i) (Z (skip k l))) (times l) (basis.kernel k inside i g)
        ⊙ basis.kernel (skip k l) (skip_below d k l h) i g

    Z'-new : (l : ℕ) → dot m y (Z' l) ≈⟨ p ⟩ 0
    unfolding times
    Z'-new l =
        let a = dot m y (Z (skip k l)) in
        exact (Z'-dot l y)
        ⊙ same_refl a ⊕ (same_refl (p - 1) ⊗ (exact (omega arith) ⊙ same_refl a ⊗ inv.1 ⊙ exact (omega arith)))
        ⊙ cancel-zero a (minus a a basis.positive)

    Z'-cells : (l q : ℕ) → l < d - 1 → q < d - 1 → Z' l (F (skip k q)) ≈⟨ p ⟩ δ q l
    unfolding Z'
    Z'-cells l q h g =
        let b = skip_below d k q g in
        no_more (Z (skip k l) (F (skip k q))) (times l) (basis.cells k (skip k q) inside b ⊙ exact (δ-other (skip k q) k (skip-not k q)))
        ⊙ basis.cells (skip k l) (skip k q) (skip_below d k l h) b ⊙ exact (skip-δ k q l)

    module _ (z : Vector) (old : InKernel p n m A z) (new : dot m y z ≈⟨ p ⟩ 0) (none : (l : ℕ) → l < d - 1 → z (F (skip k l)) ≈⟨ p ⟩ 0) where
      others : (l : ℕ) → l < d → l ≢ k → z (F l) ≈⟨ p ⟩ 0
      others = skip_all (λ l. z (F l) ≈⟨ p ⟩ 0) d k inside none

      free-is : (l : ℕ) → l < d → z (F l) ≈⟨ p ⟩ z (F k) * δ k l
      free-is l h = go (ℕ_discrete k l)
        where
          go : Dec (k ≡ l) → z (F l) ≈⟨ p ⟩ z (F k) * δ k l
          go (yes e) = exact (rw (← e) (omega (arith, ap (λ (q : ℕ). z (F k) * q) (δ-same k))))
          go (no e) = others l h (λ f. e (sym f)) ⊙ exact (omega (arith, ap (λ (q : ℕ). z (F k) * q) (δ-other k l e)))

      -- so it is vector k, z (F k) times
      z-is : (j : ℕ) → j < m → z j ≈⟨ p ⟩ z (F k) * Z k j
      z-is j h =
          kernel-combined basis z old j h ⊙ dot-left d (λ l. Z l j) free-is
          ⊙ exact (dot-scale d (z (F k)) (δ k) (λ l. Z l j) ∙ ap (λ (q : ℕ). z (F k) * q) (dot-δ d k (λ l. Z l j) inside))

      last_none : z (F k) ≈⟨ p ⟩ 0
      last_none = no-divisors prime differs (exact (omega (arith, dot-scale-right m (z (F k)) y (Z k))) ⊙ turn (dot-right m y z-is) ⊙ new)

      all_none : (l : ℕ) → l < d → z (F l) ≈⟨ p ⟩ 0
      all_none l h = free-is l h ⊙ last_none ⊗ same_refl (δ k l) ⊙ exact (omega arith)

      nothing : (j : ℕ) → j < m → z j ≈⟨ p ⟩ 0
      nothing = basis.only z old all_none

    pub narrowed : KernelBasis p (suc n) m (with_row n A y) (d - 1) (λ l. F (skip k l)) Z'
    unfolding InKernel
    narrowed =
        record {
          positive = basis.positive;
          inside = λ l h. basis.inside (skip k l) (skip_below d k l h);
          kernel = λ l h. rows n A y (λ u. dot m u (Z' l) ≈⟨ p ⟩ 0) (Z'-old l h) (Z'-new l);
          cells = Z'-cells;
          only = λ z u none. nothing z (rows-old n A y (λ v. dot m v z ≈⟨ p ⟩ 0) u) (rows_new n A y (λ v. dot m v z ≈⟨ p ⟩ 0) u) none;
        }

  -- some vector of the basis does not give y the value 0, where some kernel vector does not
  pub differing : (z : Vector) → InKernel p n m A z → ¬ (dot m y z ≈⟨ p ⟩ 0) → (k : ℕ) × (k < d) × (¬ (dot m y (Z k) ≈⟨ p ⟩ 0))
  differing z u differs = go (search-first (λ l. dot m y (Z l) ≈⟨ p ⟩ 0) (λ l. zero? (dot m y (Z l))) d)
    where
      c : Vector
      c l = z (F l)

      none : ((l : ℕ) → l < d → dot m y (Z l) ≈⟨ p ⟩ 0) → dot m y z ≈⟨ p ⟩ 0
      none all =
          dot-right m y (kernel-combined basis z u) ⊙ exact (dot-comm m y (λ j. dot d c (λ l. Z l j)) ∙ dot-assoc d m c Z y)
          ⊙ dot-right d c {v' = λ l. 0} (λ l h. exact (dot-comm m (Z l) y) ⊙ all l h) ⊙ exact (dot-none d c)

      go : ((l : ℕ) → l < d → dot m y (Z l) ≈⟨ p ⟩ 0) ⊎ ((k : ℕ) × (k < d) × (¬ (dot m y (Z k) ≈⟨ p ⟩ 0)) × ((l : ℕ) → l < k → dot m y (Z l) ≈⟨ p ⟩ 0))
          → (k : ℕ) × (k < d) × (¬ (dot m y (Z k) ≈⟨ p ⟩ 0))
      go (inl all) = absurd (differs (none all))
      go (inr (k, h, e, before)) = (k, h, e)

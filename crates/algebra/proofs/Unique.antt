-- The answers are the only ones of their form, and the rank is one number.
use mathlib.Core.Path.{◌≡◌, refl, sym, ◌∙◌}
use Prim.Native.Nat.{ℕ, ◌+◌, ◌-◌, ◌*◌, ◌%◌, ◌≤◌, ◌<◌}
use native.Mathlib.Nat.{le_antisymm, mod-lt}
use native.Mathlib.Decide.{ℕ_discrete, dec_lt}
use native.Mathlib.Omega.{arith}
use Rattle.algebra.specs.Congruence.{◌≈⟨◌⟩◌}
use Rattle.algebra.specs.Sum.{dot, place}
use Rattle.algebra.specs.Prime.{Prime}
use Rattle.algebra.specs.Matrix.{Vector, Matrix, Distinct}
use Rattle.algebra.specs.Rank.{Independent, Rank}
use Rattle.algebra.specs.RowSpace.{Combines, InKernel}
use Rattle.algebra.specs.Factors.{Factors}
use Rattle.algebra.specs.Answer.{OpenAnswer, ClosedAnswer}
use Rattle.algebra.proofs.Congruence.{exact, turn, ◌⊙◌, ◌⊕◌, same_refl, same-mod, minus, cancel, cancel-zero, equal-residues}
use Rattle.algebra.proofs.Dot.{dot-eq, dot-left, dot-comm, dot-add, dot-place, place_at, place-off}
use Rattle.algebra.proofs.Triangular.{right-kernel, left-kernel}
use Rattle.algebra.proofs.Finite.{onto}
use Rattle.algebra.proofs.Verdict.{L-triangular, U-triangular, row-times}
use Rattle.algebra.proofs.Rank.{pivots-independent}

pub rank-unique : {p n m : ℕ} {A : Matrix} {r r' : ℕ} → Rank p n m A r → Rank p n m A r' → r ≡ r'
rank-unique {r} {r'} a b =
    le_antisymm (b.greatest r a.rows a.distinct a.independent) (a.greatest r' b.rows b.distinct b.independent)

-- a vector that is 0 past the first r places of a permutation is what stands at those places
gathered : (r n : ℕ) (R : ℕ → ℕ) → Distinct n n R → r ≤ n → (e : Vector) → ((i : ℕ) → r ≤ i → i < n → e (R i) ≡ 0)
    → (t : ℕ) → t < n → e t ≡ place r R (λ i. e (R i)) t
gathered r n R d h e others t g =
    let s = onto n R d t g in
    let q : R s.0 ≡ t = s.2 in
    rw (← q) (go s.0 s.1 (dec_lt s.0 r))
  where
    first : Distinct r n R
    first = record { below = λ a b. d.below a (omega arith); apart = λ a b k l q. d.apart a b (omega arith) (omega arith) q }

    go : (i : ℕ) → i < n → Dec (i < r) → e (R i) ≡ place r R (λ i. e (R i)) (R i)
    go i b (yes k) = sym (place_at r n R (λ i. e (R i)) first i k)
    go i b (no k) =
        others i (omega arith) b
        ∙ sym (place-off r R (λ i. e (R i)) (R i) (λ l c q. omega (arith, d.apart l i (omega arith) b q)))

-- x - x'
less : ℕ → Vector → Vector → Vector
less p x x' t = (x t + (p - 1) * x' t) % p

module _ (p : ℕ) (pos : 0 < p) (x x' : Vector) where
  less-add : (t : ℕ) → less p x x' t + x' t ≈⟨ p ⟩ x t
  unfolding less
  less-add t = same-mod (x t + (p - 1) * x' t) ⊕ same_refl (x' t) ⊙ minus (x t) (x' t) pos

  less-same : (t : ℕ) → x t ≡ x' t → less p x x' t ≡ 0
  unfolding less
  less-same t e = equal-residues (mod-lt (x t + (p - 1) * x' t) pos) pos (cancel (x' t) (less-add t ⊙ exact (omega arith)))

  less_zero : (t : ℕ) → x t < p → x' t < p → less p x x' t ≈⟨ p ⟩ 0 → x t ≡ x' t
  less_zero t h g e = equal-residues h g (turn (less-add t) ⊙ e ⊕ same_refl (x' t) ⊙ exact (omega arith))

  less-dot : (s : ℕ) (g : Vector) → dot s (less p x x') g + dot s x' g ≈⟨ p ⟩ dot s x g
  less-dot s g = exact (sym (dot-add s (less p x x') x' g)) ⊙ dot-left s g (λ t h. less-add t)

module _ {p : ℕ} (prime : Prime p) {n m r : ℕ} {A : Matrix} {R C : ℕ → ℕ} {L U : Matrix} (f : Factors p n m r A R C L U) where
  pos : 0 < p
  pos = omega (arith, prime.two)

  -- e A = 0, and e is 0 on the non-pivot rows: e is 0
  kernel-rows : (e : Vector) → ((i : ℕ) → r ≤ i → i < n → e (R i) ≡ 0) → ((j : ℕ) → j < m → dot n e (λ i. A i j) ≈⟨ p ⟩ 0)
      → (t : ℕ) → t < n → e t ≈⟨ p ⟩ 0
  unfolding Independent
  kernel-rows e others h t g =
      let s = onto n R f.rows t g in
      let q : R s.0 ≡ t = s.2 in
      rw (← q) (go s.0 s.1 (dec_lt s.0 r))
    where
      zero-sum : (j : ℕ) → j < m → dot r (λ i. e (R i)) (λ i. A (R i) j) ≈⟨ p ⟩ 0
      zero-sum j b =
          exact (sym (dot-eq n {v = λ i. A i j} (gathered r n R f.rows f.rank-rows e others) (λ i c. refl)
          ∙ dot-place r n R (λ i. e (R i)) (λ i. A i j) (λ i c. f.rows.below i (omega (arith, f.rank-rows)))))
          ⊙ h j b

      go : (i : ℕ) → i < n → Dec (i < r) → e (R i) ≈⟨ p ⟩ 0
      go i b (yes k) = pivots-independent prime f (λ i. e (R i)) zero-sum i k
      go i b (no k) = exact (others i (omega arith) b)

  -- A z = 0 combines U z = 0
  U-kernel : (z : Vector) → InKernel p n m A z → (k : ℕ) → k < r → dot m (U k) z ≈⟨ p ⟩ 0
  unfolding InKernel
  U-kernel z u =
      left-kernel prime (λ k i. L i k) r (L-triangular prime f) (λ k. dot m (U k) z)
      (λ l h. let b : l < n = omega (arith, f.rank-rows) in
      exact (dot-comm r (λ k. dot m (U k) z) (L l)) ⊙ turn (row-times prime f z l b) ⊙ u (R l) (f.rows.below l b))

  -- A e = 0, and e is 0 at the non-pivot columns: e is 0
  pub kernel-columns : (e : Vector) → ((l : ℕ) → r ≤ l → l < m → e (C l) ≡ 0) → InKernel p n m A e → (t : ℕ) → t < m → e t ≈⟨ p ⟩ 0
  kernel-columns e others u t g =
      let s = onto m C f.columns t g in
      let q : C s.0 ≡ t = s.2 in
      rw (← q) (go s.0 s.1 (dec_lt s.0 r))
    where
      zero-sum : (k : ℕ) → k < r → dot r (λ l. U k (C l)) (λ l. e (C l)) ≈⟨ p ⟩ 0
      zero-sum k b =
          exact (dot-comm r (λ l. U k (C l)) (λ l. e (C l))
          ∙ sym (dot-eq m {v = U k} (gathered r m C f.columns f.rank-columns e others) (λ i c. refl)
          ∙ dot-place r m C (λ l. e (C l)) (U k) (λ l c. f.columns.below l (omega (arith, f.rank-columns))))
          ∙ dot-comm m e (U k))
          ⊙ U-kernel e u k b

      go : (l : ℕ) → l < m → Dec (l < r) → e (C l) ≈⟨ p ⟩ 0
      go l b (yes k) = right-kernel prime (λ k l. U k (C l)) r (U-triangular prime f) (λ l. e (C l)) zero-sum l k
      go l b (no k) = exact (others l (omega arith) b)

  -- x is the only answer to an open question
  pub open-unique : (y x x' : Vector) → OpenAnswer p n m r A R y x → OpenAnswer p n m r A R y x' → (t : ℕ) → t < n → x t ≡ x' t
  unfolding Combines
  open-unique y x x' a b t h =
      less_zero p pos x x' t (a.residues t h) (b.residues t h)
      (kernel-rows (less p x x') (λ i k g. less-same p pos x x' (R i) (a.others i k g ∙ sym (b.others i k g)))
      (λ j g. cancel-zero (dot n x' (λ i. A i j)) (less-dot p pos x x' n (λ i. A i j) ⊙ a.combines j g ⊙ turn (b.combines j g))) t h)

  -- z is the only answer to a closed question, at the column j
  pub closed-unique : (j : ℕ) (z z' : Vector) → ClosedAnswer p n m r A C j z → ClosedAnswer p n m r A C j z' → (t : ℕ) → t < m → z t ≡ z' t
  unfolding InKernel
  closed-unique j z z' a b t h =
      less_zero p pos z z' t (a.residues t h) (b.residues t h)
      (kernel-columns (less p z z') (λ l k g. less-same p pos z z' (C l) (agree l k g (ℕ_discrete (C l) j)))
      (λ i g. cancel-zero (dot m z' (A i))
      (exact (dot-comm m (A i) (less p z z')) ⊕ same_refl (dot m z' (A i))
      ⊙ less-dot p pos z z' m (A i) ⊙ exact (dot-comm m z (A i)) ⊙ a.kernel i g ⊙ turn (b.kernel i g) ⊙ exact (dot-comm m (A i) z'))) t h)
    where
      agree : (l : ℕ) → r ≤ l → l < m → Dec (C l ≡ j) → z (C l) ≡ z' (C l)
      agree l k g (yes e) = rw e (a.one ∙ sym b.one)
      agree l k g (no e) = a.others l k g e ∙ sym (b.others l k g e)

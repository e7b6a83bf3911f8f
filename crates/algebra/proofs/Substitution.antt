-- The two substitutions, as loops that go down from r: what each turn keeps, and what is left at the end.
use mathlib.Core.Path.{◌≡◌, refl, sym, ap, ◌∙◌}
use mathlib.Core.Logic.{◌≢◌, ◌⊎◌, inl, inr}
use Prim.Native.Nat.{ℕ, suc, ◌+◌, ◌-◌, ◌*◌, ◌≤◌, ◌<◌}
use native.Mathlib.Nat.{eq-or-lt_of_le}
use native.Mathlib.Decide.{ℕ_discrete}
use native.Mathlib.Omega.{arith}
use Rattle.algebra.specs.Congruence.{◌≈⟨◌⟩◌}
use Rattle.algebra.specs.Sum.{dot, δ}
use Rattle.algebra.specs.Prime.{Prime}
use Rattle.algebra.specs.Matrix.{Vector, Matrix}
use Rattle.algebra.specs.RowSpace.{InKernel}
use Rattle.algebra.specs.Factors.{Factors}
use Rattle.algebra.proofs.Congruence.{exact, turn, ◌⊙◌, ◌⊕◌, same_refl, by-multiples}
use Rattle.algebra.proofs.Dot.{dot-eq, dot-right, dot-none, dot-comm, dot-add-right, dot-scale-right, dot-δ, δ-same, δ-other}
use Rattle.algebra.proofs.Verdict.{row-times, kernel-from-U}

-- v stored at place k, where 0 stood
pub record Stores (k v : ℕ) (x x' : Vector) : Type 0 where
  pub old : x k ≡ 0
  pub new : x' k ≡ v
  pub kept : (i : ℕ) → i ≢ k → x' i ≡ x i

pub stores-dot : (n k v : ℕ) (x x' f : Vector) → k < n → Stores k v x x' → dot n f x' ≡ dot n f x + v * f k
stores-dot n k v x x' f h s =
    dot-eq n {u = f} {v = x'} {v' = λ i. x i + v * δ k i} (λ i g. refl) (λ i g. at i (ℕ_discrete i k))
    ∙ dot-add-right n f x (λ i. v * δ k i)
    ∙ omega (arith, dot-scale-right n v f (δ k), ap (λ (z : ℕ). v * z) (dot-comm n f (δ k) ∙ dot-δ n k f h))
  where
    at : (i : ℕ) → Dec (i ≡ k) → x' i ≡ x i + v * δ k i
    at i (yes e) = rw e (omega (arith, s.old, s.new, ap (λ (z : ℕ). v * z) (δ-same k)))
    at i (no e) = omega (arith, s.kept i e, ap (λ (z : ℕ). v * z) (δ-other k i (λ q. e (sym q))))

module _ {p : ℕ} (prime : Prime p) {n m r : ℕ} {A : Matrix} {R C : ℕ → ℕ} {L U : Matrix} (f : Factors p n m r A R C L U) where
  pos : 0 < p
  pos = omega (arith, prime.two)

  -- x L = c, by rows of L: what is left of the right side is d
  pub record Left (c : Vector) (k : ℕ) (d x : Vector) : Type 0 where
    pub done : (l : ℕ) → k ≤ l → l < r → d l ≈⟨ p ⟩ 0
    pub todo : (i : ℕ) → i < k → x i ≡ 0
    pub total : (l : ℕ) → l < r → d l + dot r (λ i. L i l) x ≈⟨ p ⟩ c l

  pub left-starts : (c : Vector) → Left c r c (λ i. 0)
  left-starts c =
      record {
        done = λ l h g. absurd (omega arith);
        todo = λ i h. refl;
        total = λ l h. exact (omega (arith, dot-none r (λ i. L i l)));
      }

  pub left-turn : (c : Vector) (k : ℕ) (d x d' x' : Vector) (v : ℕ) → k < r → v ≤ p → Left c (suc k) d x
      → v * L k k ≈⟨ p ⟩ d k → Stores k v x x' → ((l : ℕ) → l < r → d' l ≈⟨ p ⟩ d l + (p - v) * L k l) → Left c k d' x'
  left-turn c k d x d' x' v h small s e st sub =
      record {
        done = λ l b g. ended l g (eq-or-lt_of_le b);
        todo = λ i b. st.kept i (omega arith) ∙ s.todo i (omega arith);
        total = λ l g.
            sub l g ⊕ exact (stores-dot r k v x x' (λ i. L i l) h st)
            ⊙ by-multiples 0 (L k l) (again (p - v) (omega arith) (d l) (L k l) (dot r (λ i. L i l) x))
            ⊙ s.total l g;
      }
    where
      again : (q : ℕ) → q + v ≡ p → (a b t : ℕ) → a + q * b + (t + v * b) + p * 0 ≡ a + t + p * b
      again q z a b t = omega (arith, ap (λ (y : ℕ). y * b) z)

      ended : (l : ℕ) → l < r → (k ≡ l) ⊎ (k < l) → d' l ≈⟨ p ⟩ 0
      ended l g (inl z) =
          rw (← z) (sub k h ⊙ turn e ⊕ same_refl ((p - v) * L k k) ⊙ by-multiples 0 (L k k) (again' (p - v) (omega arith) (L k k)))
        where
          again' : (q : ℕ) → q + v ≡ p → (b : ℕ) → v * b + q * b + p * 0 ≡ 0 + p * b
          again' q z b = omega (arith, ap (λ (y : ℕ). y * b) z)
      ended l g (inr b) =
          sub l g ⊙ s.done l b g ⊕ exact (ap (λ (z : ℕ). (p - v) * z) (f.L-above k l b g)) ⊙ exact (omega arith)

  pub left-ends : (c d x : Vector) → Left c 0 d x → (l : ℕ) → l < r → dot r (λ i. L i l) x ≈⟨ p ⟩ c l
  left-ends c d x s l h = exact (omega arith) ⊙ turn (s.done l (omega arith) h) ⊕ same_refl (dot r (λ i. L i l) x) ⊙ s.total l h

  -- U z = c, by rows of U
  pub record Right (c : Vector) (k : ℕ) (z : Vector) : Type 0 where
    pub done : (l : ℕ) → k ≤ l → l < r → dot m (U l) z ≈⟨ p ⟩ c l
    pub todo : (l : ℕ) → l < k → z (C l) ≡ 0

  pub right-turn : (c : Vector) (k : ℕ) (z z' : Vector) (v : ℕ) → k < r → Right c (suc k) z → v + dot m (U k) z ≈⟨ p ⟩ c k → Stores (C k) v z z' → Right c k z'
  right-turn c k z z' v h s e st = record { done = λ l b g. row l g (eq-or-lt_of_le b); todo = λ l b. st.kept (C l) (other l b) ∙ s.todo l (omega arith) }
    where
      inside : (l : ℕ) → l < r → C l < m
      inside l g = f.columns.below l (omega (arith, f.rank-columns))

      other : (l : ℕ) → l < k → C l ≢ C k
      other l b q = omega (arith, f.columns.apart l k (omega (arith, f.rank-columns)) (omega (arith, f.rank-columns)) q)

      row : (l : ℕ) → l < r → (k ≡ l) ⊎ (k < l) → dot m (U l) z' ≈⟨ p ⟩ c l
      row l g (inl q) =
          rw (← q) (exact (stores-dot m (C k) v z z' (U k) (inside k h) st ∙ omega (arith, ap (λ (y : ℕ). v * y) (f.U-unit k h))) ⊙ e)
      row l g (inr b) =
          exact (stores-dot m (C k) v z z' (U l) (inside k h) st ∙ omega (arith, ap (λ (y : ℕ). v * y) (f.U-left l k b g))) ⊙ s.done l b g

  -- then A z = L c, row by row
  pub right-ends : (c z : Vector) → Right c 0 z → (i : ℕ) → i < n → dot m (A (R i)) z ≈⟨ p ⟩ dot r (L i) c
  right-ends c z s i h = row-times prime f z i h ⊙ dot-right r (L i) (λ k g. s.done k (omega arith) g)

  -- and A z = 0 where c is 0
  pub right-none : (z : Vector) → Right (λ l. 0) 0 z → InKernel p n m A z
  right-none z s = kernel-from-U prime f z (λ k h. s.done k (omega arith) h)

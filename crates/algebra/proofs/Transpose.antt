-- Factors of a matrix are factors of its transpose, with rows and columns exchanged: what holds of every set of factors holds of rows as of columns.
-- The diagonal of L goes to the other side: L'[l][k] is U[k][C[l]] L[k][k], and U'[k][R[i]] is L[i][k] / L[k][k].
use mathlib.Core.Path.{◌≡◌, sym, ap, ◌∙◌}
use Prim.Native.Nat.{ℕ, zero, suc, ◌*◌, ◌%◌, ◌<◌}
use native.Mathlib.Nat.{mod-eq_of_lt}
use native.Mathlib.Omega.{arith}
use Rattle.algebra.specs.Congruence.{◌≈⟨◌⟩◌}
use Rattle.algebra.specs.Sum.{dot, place}
use Rattle.algebra.specs.Prime.{Prime}
use Rattle.algebra.specs.Matrix.{Vector, Matrix}
use Rattle.algebra.specs.Factors.{Factors}
use Rattle.algebra.specs.ColumnSpace.{transpose}
use Rattle.algebra.proofs.Congruence.{exact, turn, ◌⊙◌, ◌⊗◌, same_refl, same-mod}
use Rattle.algebra.proofs.Inverse.{inverse}
use Rattle.algebra.proofs.Dot.{dot-nil, dot-suc, dot-right, dot-comm, place_at}
use Rattle.algebra.proofs.Finite.{onto, choose}

-- a factor of each term moves from one side to the other
pub dot-shift : (n : ℕ) (u c v : Vector) → dot n (λ i. u i * c i) v ≡ dot n u (λ i. c i * v i)
dot-shift zero u c v = dot-nil (λ i. u i * c i) v ∙ sym (dot-nil u (λ i. c i * v i))
dot-shift (suc n) u c v = dot-suc n (λ i. u i * c i) v ∙ omega (arith, dot-shift n u c v) ∙ sym (dot-suc n u (λ i. c i * v i))

module _ {p : ℕ} (prime : Prime p) {n m r : ℕ} {A : Matrix} {R C : ℕ → ℕ} {L U : Matrix} (f : Factors p n m r A R C L U) where
  inverses : (e : ℕ → ℕ) × ((k : ℕ) → k < r → L k k * e k ≈⟨ p ⟩ 1)
  inverses = choose (λ k b. L k k * b ≈⟨ p ⟩ 1) r (λ k h. inverse prime (L k k) (f.L-diagonal k h))

  -- the entry at row i of L, divided by the diagonal
  divided : Matrix
  divided k i = (L i k * inverses.0 k) % p

  pub lower : Matrix
  lower l k = U k (C l) * L k k

  pub upper : Matrix
  upper k t = place n R (divided k) t

  upper-at : (k i : ℕ) → i < n → upper k (R i) ≡ divided k i
  unfolding upper
  upper-at k i h = place_at n n R (divided k) f.rows i h

  at : (i k : ℕ) → i < r → L i k ≡ 0 → upper k (R i) ≡ 0
  unfolding divided
  at i k h e = upper-at k i (omega (arith, f.rank-rows)) ∙ ap (λ (x : ℕ). x % p) (omega (arith, ap (λ (x : ℕ). x * inverses.0 k) e)) ∙ mod-eq_of_lt (omega (arith, prime.two))

  unit : (k : ℕ) → k < r → upper k (R k) ≡ 1
  unfolding divided
  unit k h = upper-at k k (omega (arith, f.rank-rows)) ∙ (inverses.1 k h).same ∙ mod-eq_of_lt prime.two

  term : (s k : ℕ) → s < n → k < r → L k k * upper k (R s) ≈⟨ p ⟩ L s k
  unfolding divided
  term s k b h =
      same_refl (L k k) ⊗ (exact (upper-at k s b) ⊙ same-mod (L s k * inverses.0 k))
      ⊙ exact (omega arith) ⊙ same_refl (L s k) ⊗ inverses.1 k h ⊙ exact (omega arith)

  pub transposed : Factors p m n r (transpose A) C R lower upper
  unfolding lower
  transposed =
      record {
        rows = f.columns;
        columns = f.rows;
        rank-rows = f.rank-columns;
        rank-columns = f.rank-rows;
        L-above = λ i k h g. omega (arith, ap (λ (x : ℕ). x * L k k) (f.U-left k i h g));
        L-diagonal = λ k h e. f.L-diagonal k h (exact (omega (arith, ap (λ (x : ℕ). x * L k k) (f.U-unit k h))) ⊙ e);
        U-left = λ k j h g. at j k (omega arith) (f.L-above j k h g);
        U-unit = unit;
        product = λ i j h g. let s = onto n R f.rows j g in let q : R s.0 ≡ j = s.2 in rw (← q) (row i s.0 h s.1);
      }
    where
      row : (i s : ℕ) → i < m → s < n → A (R s) (C i) ≈⟨ p ⟩ dot r (λ k. U k (C i) * L k k) (λ k. upper k (R s))
      row i s h g =
          f.product s (C i) g (f.columns.below i h)
          ⊙ exact (dot-comm r (L s) (λ k. U k (C i)))
          ⊙ dot-right r (λ k. U k (C i)) (λ k b. turn (term s k g b))
          ⊙ exact (sym (dot-shift r (λ k. U k (C i)) (λ k. L k k) (λ k. upper k (R s))))

-- The two substitutions solve their triangles: v L = d, and U z = 0.
use mathlib.Core.Path.{◌≡◌, refl, sym, ap, ◌∙◌}
use mathlib.Core.Logic.{◌≢◌}
use mathlib.Core.Bool.{Bool, true, false, cond}
use Prim.Native.Nat.{ℕ, zero, suc, ◌+◌, ◌-◌, ◌*◌, ◌%◌, ◌≤◌, ◌<◌}
use native.Mathlib.Nat.{mod-lt, lt-suc_self}
use native.Mathlib.Decide.{ℕ_discrete}
use native.Mathlib.Omega.{arith}
use lib.Dec.{eqb}
use borrow.Author.Tests.{eq-eqb, ne_eqb}
use Rattle.algebra.specs.Congruence.{◌≈⟨◌⟩◌}
use Rattle.algebra.specs.Sum.{dot, δ}
use Rattle.algebra.specs.Prime.{Prime}
use Rattle.algebra.specs.Matrix.{Vector, Matrix}
use Rattle.algebra.specs.Factors.{Factors}
use Rattle.algebra.proofs.Congruence.{exact, turn, ◌⊙◌, ◌⊕◌, ◌⊗◌, same_refl, same-mod, by-multiples}
use Rattle.algebra.proofs.Dot.{below_suc, dot-suc, dot-eq, dot-vanish, δ-same, δ-other}
use Rattle.algebra.proofs.Substitution.{Right, right-turn}
use Rattle.residue.specs.Inverse.{inv_mod, Invertible}
use Rattle.residue.proofs.Inverse.{inv_mod-inverse}
use Rattle.residue.proofs.Arithmetic.{negative-add}
use Rattle.row_space.specs.Substitution.{put, less, quotient, back_l, missing, back_u}

-- ---- one cell written

pub δ-small : (p : ℕ) → 2 ≤ p → (j t : ℕ) → δ j t < p
δ-small p two j t = elim (ℕ_discrete j t) [ yes e ↦ omega (arith, ap (δ j) (sym e) ∙ δ-same j) | no e ↦ omega (arith, δ-other j t e) ]

pub put-here : (z : Vector) (c v : ℕ) → put z c v c ≡ v
put-here z c v = ap (λ (b : Bool). cond b v (z c)) (eq-eqb c c refl)

pub put_other : (z : Vector) (c v t : ℕ) → t ≢ c → put z c v t ≡ z t
put_other z c v t h = ap (λ (b : Bool). cond b v (z t)) (ne_eqb t c h)

pub put_small : (p : ℕ) (z : Vector) (c v : ℕ) → v < p → (t : ℕ) → z t < p → put z c v t < p
put_small p z c v h t g = go (eqb t c)
  where
    go : (b : Bool) → cond b v (z t) < p
    go true = h
    go false = g

-- ---- v L = d

pub back_l-small : (p : ℕ) (L : Matrix) (k : ℕ) (d : Vector) (i : ℕ) → 0 < p → back_l p L k d i < p
unfolding back_l
back_l-small p L zero d i pos = pos
back_l-small p L (suc k) d i pos =
    put_small p (back_l p L k (less p d (quotient p L k d) (L k))) k (quotient p L k d) (mod-lt (d k * inv_mod p (L k k)) pos) i
    (back_l-small p L k (less p d (quotient p L k d) (L k)) i pos)

module _ {p : ℕ} (prime : Prime p) (r : ℕ) (L : Matrix) (above : (i k : ℕ) → i < k → k < r → L i k ≡ 0) (diagonal : (k : ℕ) → k < r → Invertible p (L k k)) where
  pos : 0 < p
  pos = omega (arith, prime.two)

  divides : (k : ℕ) (d : Vector) → k < r → L k k * quotient p L k d ≈⟨ p ⟩ d k
  divides k d h =
      same_refl (L k k) ⊗ same-mod (d k * inv_mod p (L k k))
      ⊙ exact (omega arith)
      ⊙ same_refl (d k) ⊗ (inv_mod-inverse (diagonal k h)).product
      ⊙ exact (omega arith)

  -- the row's own share, and what the rows before it give
  split : (k : ℕ) (d : Vector) (l : ℕ)
      → dot (suc k) (λ i. L i l) (back_l p L (suc k) d) ≡ dot k (λ i. L i l) (back_l p L k (less p d (quotient p L k d) (L k))) + L k l * quotient p L k d
  unfolding back_l
  split k d l =
      let u = back_l p L k (less p d (quotient p L k d) (L k)) in
      dot-suc k (λ i. L i l) (back_l p L (suc k) d)
      ∙ (λ j. dot-eq k {u = λ i. L i l} {v = back_l p L (suc k) d} {v' = u} (λ i b. refl) (λ i b. put_other u k (quotient p L k d) i (λ e. omega arith)) j + L k l * put-here u k (quotient p L k d) j)

  again : (v a b : ℕ) → v < p → a + (p - v) * b + b * v + p * 0 ≡ a + p * b
  again v a b h = go (p - v) (omega arith)
    where
      go : (q : ℕ) → q + v ≡ p → a + q * b + b * v + p * 0 ≡ a + p * b
      go q e = omega (arith, ap (λ (z : ℕ). z * b) e)

  pub back_l-solves : (k : ℕ) → k ≤ r → (d : Vector) (l : ℕ) → l < k → dot k (λ i. L i l) (back_l p L k d) ≈⟨ p ⟩ d l
  back_l-solves zero h d l g = absurd (omega arith)
  back_l-solves (suc k) h d l g =
      let v = quotient p L k d in
      let d' = less p d v (L k) in
      below_suc (λ l. dot (suc k) (λ i. L i l) (back_l p L (suc k) d) ≈⟨ p ⟩ d l) k
      (exact (split k d k) ⊙ exact (omega (arith, dot-vanish k {u = λ i. L i k} (back_l p L k d') (λ i b. above i k b h))) ⊙ divides k d h)
      (λ l g.
      exact (split k d l)
      ⊙ (back_l-solves k (omega arith) d' l g ⊙ same-mod (d l + (p - v) * L k l)) ⊕ same_refl (L k l * v)
      ⊙ by-multiples 0 (L k l) (again v (d l) (L k l) (mod-lt (d k * inv_mod p (L k k)) pos)))
      l g

-- ---- U z = 0

pub back_u-kept : (p m : ℕ) (C : Vector) (U : Matrix) (k : ℕ) (z : Vector) (t : ℕ) → ((l : ℕ) → l < k → C l ≢ t) → back_u p m C U k z t ≡ z t
unfolding back_u
back_u-kept p m C U zero z t h = refl
back_u-kept p m C U (suc k) z t h =
    back_u-kept p m C U k (put z (C k) (missing p m (U k) z)) t (λ l g. h l (omega arith))
    ∙ put_other z (C k) (missing p m (U k) z) t (λ e. h k (omega arith) (sym e))

pub back_u-small : (p m : ℕ) (C : Vector) (U : Matrix) (k : ℕ) (z : Vector) → 0 < p → ((t : ℕ) → z t < p) → (t : ℕ) → back_u p m C U k z t < p
unfolding back_u
back_u-small p m C U zero z pos h t = h t
back_u-small p m C U (suc k) z pos h t =
    back_u-small p m C U k (put z (C k) (missing p m (U k) z)) pos (λ t. put_small p z (C k) (missing p m (U k) z) (mod-lt (p - dot m (U k) z % p) pos) t (h t)) t

pub missing-zero : (p x : ℕ) → 0 < p → (p - x % p) % p + x ≈⟨ p ⟩ 0
missing-zero p x pos = let h = mod-lt x pos in same_refl ((p - x % p) % p) ⊕ turn (same-mod x) ⊙ negative-add (omega arith)

module _ {p : ℕ} (prime : Prime p) {n m r : ℕ} {A : Matrix} {R C : ℕ → ℕ} {L U : Matrix} (f : Factors p n m r A R C L U) where
  pub back_u-right : (k : ℕ) → k ≤ r → (z : Vector) → Right prime f (λ l. 0) k z → Right prime f (λ l. 0) 0 (back_u p m C U k z)
  unfolding back_u
  back_u-right zero h z s = s
  back_u-right (suc k) h z s =
      back_u-right k (omega arith) (put z (C k) (missing p m (U k) z))
      (right-turn prime f (λ l. 0) k z (put z (C k) (missing p m (U k) z)) (missing p m (U k) z) h s (missing-zero p (dot m (U k) z) (omega (arith, prime.two)))
      (record { old = s.todo k (lt-suc_self k); new = put-here z (C k) (missing p m (U k) z); kept = λ i e. put_other z (C k) (missing p m (U k) z) i e }))

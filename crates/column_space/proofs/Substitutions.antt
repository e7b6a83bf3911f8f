-- The two substitutions solve their triangles: L t = d on the pivot rows, and U s = t.
--   lacking-adds, lacking-none, lacking-zero    what a row lacks, added to the row, is d; it is 0 exactly if the row has d
--   forward-small, forward-beyond, forward-kept, forward-ext    t: residues, 0 past the rows that were solved, each value written once, from d below k
--   forward-solves                              L t = d on the rows of the triangle
--   settle-kept, settle-small, settle-right     s: only the pivot cells are written, residues, U s = t
use mathlib.Core.Path.{◌≡◌, refl, sym, ap, ap₂, ◌∙◌}
use mathlib.Core.Logic.{◌≢◌, ◌⊎◌, inl, inr}
use Prim.Native.Nat.{ℕ, zero, suc, ◌+◌, ◌*◌, ◌%◌, ◌≤◌, ◌<◌}
use native.Mathlib.Nat.{mod-lt, lt-suc_self, eq-or-lt_of_le}
use native.Mathlib.Omega.{arith}
use Rattle.algebra.specs.Congruence.{◌≈⟨◌⟩◌}
use Rattle.algebra.specs.Sum.{dot}
use Rattle.algebra.specs.Prime.{Prime}
use Rattle.algebra.specs.Matrix.{Vector, Matrix}
use Rattle.algebra.specs.Factors.{Factors}
use Rattle.algebra.proofs.Congruence.{exact, turn, ◌⊙◌, ◌⊕◌, ◌⊗◌, same_refl, same-mod, cancel-zero, equal-residues}
use Rattle.algebra.proofs.Dot.{below_suc, dot-suc, dot-eq}
use Rattle.algebra.proofs.Substitution.{Right, right-turn}
use Rattle.residue.specs.Inverse.{inv_mod, Invertible}
use Rattle.residue.proofs.Inverse.{inv_mod-inverse}
use Rattle.row_space.specs.Substitution.{put, missing}
use Rattle.row_space.proofs.Substitutions.{put-here, put_other, put_small, missing-zero}
use Rattle.column_space.specs.Substitution.{lacking, forward, settle}

-- ---- what a row lacks

pub lacking-small : (p k : ℕ) (row t : Vector) (d : ℕ) → 0 < p → lacking p k row t d < p
lacking-small p k row t d pos = mod-lt (d + missing p k row t) pos

pub lacking-adds : (p k : ℕ) (row t : Vector) (d : ℕ) → 0 < p → lacking p k row t d + dot k row t ≈⟨ p ⟩ d
lacking-adds p k row t d pos =
    same-mod (d + missing p k row t) ⊕ same_refl (dot k row t)
    ⊙ exact (omega arith)
    ⊙ same_refl d ⊕ missing-zero p (dot k row t) pos
    ⊙ exact (omega arith)

pub lacking-none : (p k : ℕ) (row t : Vector) (d : ℕ) → 0 < p → dot k row t ≈⟨ p ⟩ d → lacking p k row t d ≡ 0
lacking-none p k row t d pos e =
    equal-residues (lacking-small p k row t d pos) pos (cancel-zero (dot k row t) (lacking-adds p k row t d pos ⊙ turn e))

pub lacking-zero : (p k : ℕ) (row t : Vector) (d : ℕ) → 0 < p → lacking p k row t d ≡ 0 → dot k row t ≈⟨ p ⟩ d
lacking-zero p k row t d pos e = exact (omega (arith, e)) ⊙ lacking-adds p k row t d pos

-- ---- L t = d

pub forward-small : (p : ℕ) (L : Matrix) (k : ℕ) (d : Vector) (i : ℕ) → 0 < p → forward p L k d i < p
unfolding forward
forward-small p L zero d i pos = pos
forward-small p L (suc k) d i pos =
    put_small p (forward p L k d) k ((lacking p k (L k) (forward p L k d) (d k) * inv_mod p (L k k)) % p)
    (mod-lt (lacking p k (L k) (forward p L k d) (d k) * inv_mod p (L k k)) pos) i (forward-small p L k d i pos)

-- the value of row k, and the others
pub forward-here : (p : ℕ) (L : Matrix) (k : ℕ) (d : Vector)
    → forward p L (suc k) d k ≡ (lacking p k (L k) (forward p L k d) (d k) * inv_mod p (L k k)) % p
unfolding forward
forward-here p L k d = put-here (forward p L k d) k ((lacking p k (L k) (forward p L k d) (d k) * inv_mod p (L k k)) % p)

pub forward-other : (p : ℕ) (L : Matrix) (k : ℕ) (d : Vector) (i : ℕ) → i ≢ k → forward p L (suc k) d i ≡ forward p L k d i
unfolding forward
forward-other p L k d i h = put_other (forward p L k d) k ((lacking p k (L k) (forward p L k d) (d k) * inv_mod p (L k k)) % p) i h

pub forward-beyond : (p : ℕ) (L : Matrix) (k : ℕ) (d : Vector) (i : ℕ) → k ≤ i → forward p L k d i ≡ 0
unfolding forward
forward-beyond p L zero d i h = refl
forward-beyond p L (suc k) d i h = forward-other p L k d i (λ e. omega arith) ∙ forward-beyond p L k d i (omega arith)

pub forward-kept : (p : ℕ) (L : Matrix) (r k : ℕ) (d : Vector) (l : ℕ) → l < k → k ≤ r → forward p L r d l ≡ forward p L k d l
forward-kept p L zero k d l h g = absurd (omega arith)
forward-kept p L (suc r) k d l h g = go (eq-or-lt_of_le g) (forward-kept p L r k d l h)
  where
    go : (k ≡ suc r) ⊎ (k < suc r) → (k ≤ r → forward p L r d l ≡ forward p L k d l) → forward p L (suc r) d l ≡ forward p L k d l
    go (inl e) ih = rw e refl
    go (inr b) ih = forward-other p L r d l (λ e. omega arith) ∙ ih (omega arith)

pub forward-ext : (p : ℕ) (L : Matrix) (k : ℕ) (d d' : Vector) → ((i : ℕ) → i < k → d i ≡ d' i) → forward p L k d ≡ forward p L k d'
unfolding forward
forward-ext p L zero d d' h = refl
forward-ext p L (suc k) d d' h =
    ap₂ (λ (t : Vector) (x : ℕ). put t k ((lacking p k (L k) t x * inv_mod p (L k k)) % p))
    (forward-ext p L k d d' (λ i g. h i (omega arith))) (h k (lt-suc_self k))

module _ {p : ℕ} (prime : Prime p) (r : ℕ) (L : Matrix) (above : (i k : ℕ) → i < k → k < r → L i k ≡ 0) (diagonal : (k : ℕ) → k < r → Invertible p (L k k)) where
  pos : 0 < p
  pos = omega (arith, prime.two)

  divides : (k x : ℕ) → k < r → L k k * ((x * inv_mod p (L k k)) % p) ≈⟨ p ⟩ x
  divides k x h =
      same_refl (L k k) ⊗ same-mod (x * inv_mod p (L k k))
      ⊙ exact (omega arith)
      ⊙ same_refl x ⊗ (inv_mod-inverse (diagonal k h)).product
      ⊙ exact (omega arith)

  -- what the rows before it give, and the row's own share
  split : (k : ℕ) (d row : Vector) → dot (suc k) row (forward p L (suc k) d) ≡ dot k row (forward p L k d) + row k * forward p L (suc k) d k
  split k d row =
      dot-suc k row (forward p L (suc k) d)
      ∙ ap (λ (z : ℕ). z + row k * forward p L (suc k) d k)
      (dot-eq k {u = row} (λ i b. refl) (λ i b. forward-other p L k d i (λ e. omega arith)))

  own : (k : ℕ) (d : Vector) → k < r → dot (suc k) (L k) (forward p L (suc k) d) ≈⟨ p ⟩ d k
  own k d h =
      let t = forward p L k d in
      exact (split k d (L k))
      ⊙ same_refl (dot k (L k) t) ⊕ (exact (ap (λ (z : ℕ). L k k * z) (forward-here p L k d)) ⊙ divides k (lacking p k (L k) t (d k)) h)
      ⊙ exact (omega arith)
      ⊙ lacking-adds p k (L k) t (d k) pos

  solves : (k : ℕ) → k ≤ r → (d : Vector) (l : ℕ) → l < k → dot k (L l) (forward p L k d) ≈⟨ p ⟩ d l
  solves zero h d l g = absurd (omega arith)
  solves (suc k) h d l g =
      below_suc (λ l. dot (suc k) (L l) (forward p L (suc k) d) ≈⟨ p ⟩ d l) k (own k d h)
      (λ l b.
      exact (split k d (L l) ∙ omega (arith, ap (λ (z : ℕ). z * forward p L (suc k) d k) (above l k b h)))
      ⊙ solves k (omega arith) d l b)
      l g

  pub forward-solves : (d : Vector) (k : ℕ) → k < r → dot r (L k) (forward p L r d) ≈⟨ p ⟩ d k
  forward-solves d k h = solves r (omega arith) d k h

-- ---- U s = t

pub settle-kept : (p m : ℕ) (C : Vector) (U : Matrix) (t : Vector) (k : ℕ) (s : Vector) (j : ℕ) → ((l : ℕ) → l < k → C l ≢ j) → settle p m C U t k s j ≡ s j
unfolding settle
settle-kept p m C U t zero s j h = refl
settle-kept p m C U t (suc k) s j h =
    settle-kept p m C U t k (put s (C k) (lacking p m (U k) s (t k))) j (λ l g. h l (omega arith))
    ∙ put_other s (C k) (lacking p m (U k) s (t k)) j (λ e. h k (omega arith) (sym e))

pub settle-small : (p m : ℕ) (C : Vector) (U : Matrix) (t : Vector) (k : ℕ) (s : Vector) → 0 < p → ((j : ℕ) → s j < p) → (j : ℕ) → settle p m C U t k s j < p
unfolding settle
settle-small p m C U t zero s pos h j = h j
settle-small p m C U t (suc k) s pos h j =
    settle-small p m C U t k (put s (C k) (lacking p m (U k) s (t k))) pos
    (λ j. put_small p s (C k) (lacking p m (U k) s (t k)) (lacking-small p m (U k) s (t k) pos) j (h j)) j

module _ {p : ℕ} (prime : Prime p) {n m r : ℕ} {A : Matrix} {R C : ℕ → ℕ} {L U : Matrix} (f : Factors p n m r A R C L U) where
  pub settle-right : (t : Vector) (k : ℕ) → k ≤ r → (s : Vector) → Right prime f t k s → Right prime f t 0 (settle p m C U t k s)
  unfolding settle
  settle-right t zero h s g = g
  settle-right t (suc k) h s g =
      let v = lacking p m (U k) s (t k) in
      settle-right t k (omega arith) (put s (C k) v)
      (right-turn prime f t k s (put s (C k) v) v h g (lacking-adds p m (U k) s (t k) (omega (arith, prime.two)))
      (record { old = g.todo k (lt-suc_self k); new = put-here s (C k) v; kept = λ i e. put_other s (C k) v i e }))

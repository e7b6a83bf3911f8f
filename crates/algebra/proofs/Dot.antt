-- Sums of products.
use mathlib.Core.Path.{◌≡◌, refl, sym, ap, ◌∙◌}
use mathlib.Core.Logic.{◌≢◌, ◌⊎◌, inl, inr}
use Prim.Native.Nat.{ℕ, zero, suc, ◌+◌, ◌*◌, ◌<◌}
use native.Mathlib.Nat.{eq-or-lt_of_le, le_of_suc-le-suc, lt-suc_self, le_step}
use native.Mathlib.Omega.{arith}
use native.Mathlib.Decide.{ℕ_discrete}
use Rattle.algebra.specs.Congruence.{◌≈⟨◌⟩◌}
use Rattle.algebra.specs.Sum.{sum, dot, δ, place}
use Rattle.algebra.specs.Matrix.{Distinct}
use Rattle.algebra.proofs.Congruence.{exact, ◌⊕◌, ◌⊗◌}

-- what holds at r and below r holds below r + 1
pub below_suc : (P : ℕ → Type 0) (r : ℕ) → P r → ((l : ℕ) → l < r → P l) → (l : ℕ) → l < suc r → P l
below_suc P r last others l h = go (eq-or-lt_of_le (le_of_suc-le-suc h))
  where
    go : (l ≡ r) ⊎ (l < r) → P l
    go (inl e) = rw e last
    go (inr b) = others l b

pub dot-nil : (u v : ℕ → ℕ) → dot 0 u v ≡ 0
unfolding dot sum
dot-nil u v = refl

pub dot-suc : (n : ℕ) (u v : ℕ → ℕ) → dot (suc n) u v ≡ dot n u v + u n * v n
unfolding dot sum
dot-suc n u v = refl

pub dot-eq : (n : ℕ) {u u' v v' : ℕ → ℕ} → ((i : ℕ) → i < n → u i ≡ u' i) → ((i : ℕ) → i < n → v i ≡ v' i) → dot n u v ≡ dot n u' v'
unfolding dot sum
dot-eq zero h k = refl
dot-eq (suc n) {u} {u'} {v} {v'} h k =
    λ t. dot-eq n (λ i l. h i (le_step l)) (λ i l. k i (le_step l)) t + h n (lt-suc_self n) t * k n (lt-suc_self n) t

pub dot-cong : {p : ℕ} (n : ℕ) {u u' v v' : ℕ → ℕ} → ((i : ℕ) → i < n → u i ≈⟨ p ⟩ u' i) → ((i : ℕ) → i < n → v i ≈⟨ p ⟩ v' i) → dot n u v ≈⟨ p ⟩ dot n u' v'
unfolding dot sum
dot-cong zero h k = exact refl
dot-cong (suc n) {u} {u'} {v} {v'} h k =
    dot-cong n (λ i l. h i (le_step l)) (λ i l. k i (le_step l)) ⊕ h n (lt-suc_self n) ⊗ k n (lt-suc_self n)

pub dot-left : {p : ℕ} (n : ℕ) {u u' : ℕ → ℕ} (v : ℕ → ℕ) → ((i : ℕ) → i < n → u i ≈⟨ p ⟩ u' i) → dot n u v ≈⟨ p ⟩ dot n u' v
dot-left n v h = dot-cong n h (λ i l. exact {x = v i} refl)

pub dot-right : {p : ℕ} (n : ℕ) (u : ℕ → ℕ) {v v' : ℕ → ℕ} → ((i : ℕ) → i < n → v i ≈⟨ p ⟩ v' i) → dot n u v ≈⟨ p ⟩ dot n u v'
dot-right n u h = dot-cong n (λ i l. exact {x = u i} refl) h

pub dot-comm : (n : ℕ) (u v : ℕ → ℕ) → dot n u v ≡ dot n v u
unfolding dot sum
dot-comm zero u v = refl
dot-comm (suc n) u v = omega (arith, dot-comm n u v)

pub dot-add : (n : ℕ) (u v w : ℕ → ℕ) → dot n (λ i. u i + v i) w ≡ dot n u w + dot n v w
unfolding dot sum
dot-add zero u v w = refl
dot-add (suc n) u v w = omega (arith, dot-add n u v w)

pub dot-scale : (n c : ℕ) (u w : ℕ → ℕ) → dot n (λ i. c * u i) w ≡ c * dot n u w
unfolding dot sum
dot-scale zero c u w = omega arith
dot-scale (suc n) c u w = omega (arith, dot-scale n c u w)

pub dot-add-right : (n : ℕ) (w u v : ℕ → ℕ) → dot n w (λ i. u i + v i) ≡ dot n w u + dot n w v
unfolding dot sum
dot-add-right zero w u v = refl
dot-add-right (suc n) w u v = omega (arith, dot-add-right n w u v)

pub dot-scale-right : (n c : ℕ) (w u : ℕ → ℕ) → dot n w (λ i. c * u i) ≡ c * dot n w u
unfolding dot sum
dot-scale-right zero c w u = omega arith
dot-scale-right (suc n) c w u = omega (arith, dot-scale-right n c w u)

pub dot-zero : (n : ℕ) (w : ℕ → ℕ) → dot n (λ i. 0) w ≡ 0
unfolding dot sum
dot-zero zero w = refl
dot-zero (suc n) w = omega (arith, dot-zero n w)

pub dot-none : (n : ℕ) (u : ℕ → ℕ) → dot n u (λ i. 0) ≡ 0
dot-none n u = dot-comm n u (λ i. 0) ∙ dot-zero n u

-- (x A) s and x (A s)
pub dot-assoc : (n m : ℕ) (x : ℕ → ℕ) (A : ℕ → ℕ → ℕ) (s : ℕ → ℕ)
    → dot m (λ j. dot n x (λ i. A i j)) s ≡ dot n x (λ i. dot m (A i) s)
unfolding dot sum
dot-assoc zero m x A s = dot-zero m s
dot-assoc (suc n) m x A s =
    dot-add m (λ j. dot n x (λ i. A i j)) (λ j. x n * A n j) s
    ∙ omega (arith, dot-assoc n m x A s, dot-scale m (x n) (A n) s)

-- ---- one at a place, and zero elsewhere

pub δ-same : (a : ℕ) → δ a a ≡ 1
unfolding δ
δ-same zero = refl
δ-same (suc a) = δ-same a

pub δ-other : (a b : ℕ) → a ≢ b → δ a b ≡ 0
unfolding δ
δ-other zero zero h = absurd (h refl)
δ-other zero (suc b) h = refl
δ-other (suc a) zero h = refl
δ-other (suc a) (suc b) h = δ-other a b (λ e. h (ap suc e))

pub dot-vanish : (n : ℕ) {u : ℕ → ℕ} (v : ℕ → ℕ) → ((i : ℕ) → i < n → u i ≡ 0) → dot n u v ≡ 0
dot-vanish n v h = dot-eq n {u' = λ i. 0} {v = v} h (λ i l. refl) ∙ dot-zero n v

pub dot-δ : (n a : ℕ) (f : ℕ → ℕ) → a < n → dot n (δ a) f ≡ f a
dot-δ zero a f h = absurd (omega arith)
dot-δ (suc n) a f h = dot-suc n (δ a) f ∙ go (eq-or-lt_of_le (le_of_suc-le-suc h)) (dot-δ n a f)
  where
    go : (a ≡ n) ⊎ (a < n) → (a < n → dot n (δ a) f ≡ f a) → dot n (δ a) f + δ a n * f n ≡ f a
    go (inl e) rest = rw (← e) (omega (arith, ap (λ (z : ℕ). z * f a) (δ-same a), dot-vanish a f (λ i l. δ-other a i (omega arith))))
    go (inr l) rest = omega (arith, rest l, ap (λ (z : ℕ). z * f n) (δ-other a n (omega arith)))

-- the vector that has v i at place R i, for i below s, and 0 elsewhere
pub dot-place : (s n : ℕ) (R v f : ℕ → ℕ) → ((i : ℕ) → i < s → R i < n) → dot n (place s R v) f ≡ dot s v (λ i. f (R i))
unfolding place
dot-place s n R v f h = dot-assoc s n v (λ i. δ (R i)) f ∙ dot-eq s {u = v} (λ i l. refl) (λ i l. dot-δ n (R i) f (h i l))

-- the vector at its places, where no two are equal
pub place_at : (s n : ℕ) (R v : ℕ → ℕ) → Distinct s n R → (i : ℕ) → i < s → place s R v (R i) ≡ v i
unfolding place
place_at s n R v d i h =
    dot-eq s {u = v} {v' = δ i} (λ a l. refl) (λ a l. at a (ℕ_discrete i a) l) ∙ dot-comm s v (δ i) ∙ dot-δ s i v h
  where
    at : (a : ℕ) → Dec (i ≡ a) → a < s → δ (R a) (R i) ≡ δ i a
    at a (yes e) l = rw (← e) (δ-same (R i) ∙ sym (δ-same i))
    at a (no f) l = δ-other (R a) (R i) (λ e. f (d.apart i a h l (sym e))) ∙ sym (δ-other i a f)

-- and elsewhere
pub place-off : (s : ℕ) (R v : ℕ → ℕ) (t : ℕ) → ((i : ℕ) → i < s → R i ≢ t) → place s R v t ≡ 0
unfolding place
place-off s R v t h = dot-comm s v (λ i. δ (R i) t) ∙ dot-vanish s v (λ i l. δ-other (R i) t (h i l))

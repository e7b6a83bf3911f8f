-- The loop of `forward`: the first k cells are the values of the substitution through L, and the cells from k on are 0.
use mathlib.Core.Path.{◌≡◌, refl, sym, ap, ◌∙◌}
use mathlib.Core.Logic.{◌⊎◌, inl, inr}
use mathlib.Core.List.{List}
use Prim.Native.Nat.{ℕ, zero, suc, ◌+◌, ◌-◌, ◌*◌, ◌%◌, ◌≤◌, ◌<◌}
use native.Mathlib.Nat.{eq-or-lt_of_le}
use native.Mathlib.Omega.{arith}
use lib.ListN.{length, get_or, set, length-set}
use Rattle.lists.specs.Filled.{zeros}
use Rattle.lists.specs.Tabulate.{tabulate}
use Rattle.lists.proofs.Filled.{zeros-at}
use Rattle.lists.proofs.Tabulate.{tabulated}
use Rattle.algebra.specs.Sum.{dot}
use Rattle.algebra.specs.Matrix.{Vector, Matrix, vector}
use Rattle.algebra.proofs.Dot.{dot-suc, dot-eq}
use Rattle.residue.specs.Inverse.{inv_mod}
use Rattle.sparse.specs.Row.{Below}
use Rattle.sparse.specs.Matrix.{Compressed}
use Rattle.pluq.proofs.Orders.{permutation-means}
use Rattle.row_space.specs.Substitution.{put}
use Rattle.row_space.proofs.UpperLoop.{set-put}
use Rattle.column_space.specs.Substitution.{lacking, forward}
use Rattle.column_space.proofs.Substitutions.{forward-small, forward-beyond}
use Rattle.answer_slots.specs.Needs.{ForwardReady}

-- a row's product ends where the values do
dot-past : (n k : ℕ) (u v : Vector) → k ≤ n → ((i : ℕ) → k ≤ i → v i ≡ 0) → dot n u v ≡ dot k u v
dot-past zero k u v h none = ap (λ (i : ℕ). dot i u v) (let q : zero ≡ k = omega arith in q)
dot-past (suc n) k u v h none = go (eq-or-lt_of_le h) (dot-past n k u v)
  where
    go : (k ≡ suc n) ⊎ (k < suc n) → (k ≤ n → ((i : ℕ) → k ≤ i → v i ≡ 0) → dot n u v ≡ dot k u v) → dot (suc n) u v ≡ dot k u v
    go (inl e) ih = ap (λ (i : ℕ). dot i u v) (sym e)
    go (inr b) ih = dot-suc n u v ∙ omega (arith, ap (λ (x : ℕ). u n * x) (none n (omega arith)), ih (omega arith) none)

pub record Forwarding (p : ℕ) (L : Matrix) (d : Vector) (t₀ t : List ℕ) (k : ℕ) : Type 0 where
  pub inside : k ≤ length t₀
  pub long : length t ≡ length t₀
  pub cells : (i : ℕ) → vector t i ≡ forward p L k d i

pub forwarding-starts : (p : ℕ) (L : Matrix) (d : Vector) (t : List ℕ) → t ≡ zeros (length t) → Forwarding p L d t t 0
unfolding forward
forwarding-starts p L d t clear =
    record { inside = omega arith; long = refl; cells = λ i. ap (λ (l : List ℕ). get_or l i 0) clear ∙ zeros-at (length t) i }

module _ (p : ℕ) (L : Matrix) (d : Vector) (t₀ t : List ℕ) (k : ℕ) (s : Forwarding p L d t₀ t k) where
  pub forwarding-small : 0 < p → Below p t
  forwarding-small pos i h = rw (s.cells i) (forward-small p L k d i pos)

  -- the values before row k are all that counts
  before : dot (length t) (L k) (vector t) ≡ dot k (L k) (forward p L k d)
  before =
      dot-eq (length t) {u = L k} (λ i b. refl) (λ i b. s.cells i)
      ∙ dot-past (length t) k (L k) (forward p L k d) (omega (arith, s.inside, s.long)) (forward-beyond p L k d)

  pub forwarding-turn : (x v : ℕ) → k < length t₀ → x ≡ d k → v ≡ (lacking p (length t) (L k) (vector t) x * inv_mod p (L k k)) % p → Forwarding p L d t₀ (set t k v) (k + 1)
  unfolding forward
  forwarding-turn x v h ex ev =
      record {
        inside = omega arith;
        long = length-set t k v ∙ s.long;
        cells = λ i.
            set-put t k v i (omega (arith, s.long))
            ∙ (λ a. put (λ j. s.cells j a) k (value a) i)
            ∙ ap (λ (n : ℕ). forward p L n d i) (let q : suc k ≡ k + 1 = omega arith in q);
      }
    where
      value : v ≡ (lacking p k (L k) (forward p L k d) (d k) * inv_mod p (L k k)) % p
      value = ev ∙ (λ a. (((ex a + (p - before a % p) % p) % p) * inv_mod p (L k k)) % p)

  pub forwarding-ends : length t₀ ≤ k → t ≡ tabulate (length t₀) (forward p L (length t₀) d)
  forwarding-ends h =
      tabulated (length t₀) (forward p L (length t₀) d) t s.long
      (λ i b. s.cells i ∙ ap (λ (n : ℕ). forward p L n d i) (let q : k ≡ length t₀ = omega (arith, s.inside) in q))

-- the order gives each row a slot
pub slot-below : (p : ℕ) (L : Compressed) (R h t : List ℕ) → ForwardReady p L R h t → (k : ℕ) → k < length t → get_or R k 0 < length h
slot-below p L R h t s k b = (permutation-means (length h) R s.long s.order).below k (omega (arith, s.rank))

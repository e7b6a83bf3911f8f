-- The loop of `solve_lower`: rows k and above are done.
use mathlib.Core.Path.{◌≡◌, refl, sym, ap, subst, ◌∙◌}
use mathlib.Core.Logic.{◌≢◌}
use mathlib.Core.Bool.{cond}
use mathlib.Core.List.{List}
use Prim.Native.Nat.{ℕ, zero, suc, ◌+◌, ◌-◌, ◌*◌, ◌%◌, ◌≤◌, ◌<◌}
use native.Mathlib.Nat.{mod-lt}
use native.Mathlib.Decide.{ℕ_discrete, dec_lt}
use native.Mathlib.Omega.{arith}
use lib.Dec.{eqb}
use lib.ListN.{length, get_or, set, length-set}
use lib.Seq.{get_or-set_same, get_or-set_other}
use Rattle.lists.specs.Tabulate.{tabulate}
use Rattle.lists.proofs.Filled.{zeros-at}
use Rattle.lists.proofs.Tabulate.{tabulated}
use Rattle.algebra.specs.Congruence.{◌≈⟨◌⟩◌}
use Rattle.algebra.specs.Sum.{place}
use Rattle.algebra.specs.Matrix.{Vector, Matrix, Distinct, vector}
use Rattle.algebra.proofs.Congruence.{turn, ◌⊙◌, same-mod, by-multiples, cancel}
use Rattle.algebra.proofs.Dot.{place_at, place-off}
use Rattle.algebra.proofs.Finite.{onto}
use Rattle.residue.specs.Inverse.{inv_mod}
use Rattle.sparse.specs.Row.{Below}
use Rattle.sparse.specs.Matrix.{Compressed, matrix}
use Rattle.sparse.specs.WorkingRow.{Subtracted}
use Rattle.pluq.proofs.Orders.{permutation-means}
use Rattle.row_space.specs.Substitution.{less, quotient, back_l}
use Rattle.row_space.specs.Solving.{residues, QuotientTaken}
use Rattle.row_space.specs.Needs.{LowerOrder}
use Rattle.row_space.proofs.Substitutions.{put-here, put_other}

pub back_l-ext : (p : ℕ) (L : Matrix) (k : ℕ) (d d' : Vector) → ((l : ℕ) → l < k → d l ≡ d' l) → (i : ℕ) → back_l p L k d i ≡ back_l p L k d' i
unfolding back_l
back_l-ext p L zero d d' h i = refl
back_l-ext p L (suc k) d d' h i =
    let e : quotient p L k d ≡ quotient p L k d' = ap (λ (x : ℕ). (x * inv_mod p (L k k)) % p) (h k (omega arith)) in
    λ j. cond (eqb i k) (e j)
    (back_l-ext p L k (less p d (quotient p L k d) (L k)) (less p d' (quotient p L k d') (L k)) (λ l g. λ a. (h l (omega arith) a + (p - e a) * L k l) % p) i j)

-- the residues of the working row after v times a row was taken away
pub subtracted-less : (p v : ℕ) (row : Vector) (w w' : List ℕ) (l : ℕ) → v ≤ p → l < length w → Subtracted p (λ j. v * row j) w w'
    → residues p w' l ≡ less p (residues p w) v row l
subtracted-less p v row w w' l small h t =
    let q : get_or w' l 0 ≈⟨ p ⟩ get_or w l 0 % p + (p - v) * row l
    = cancel (v * row l) (t.cells l h ⊙ turn (same-mod (get_or w l 0)) ⊙ turn (by-multiples 0 (row l) (go (p - v) (omega arith)))) in
    q.same
  where
    go : (c : ℕ) → c + v ≡ p → get_or w l 0 % p + c * row l + v * row l + p * 0 ≡ get_or w l 0 % p + p * row l
    go c e = omega (arith, ap (λ (z : ℕ). z * row l) e)

pub record Lowering (p : ℕ) (L : Matrix) (R : Vector) (w₀ w x₀ x : List ℕ) (k : ℕ) : Type 0 where
  pub long : length w ≡ length w₀
  pub long-x : length x ≡ length x₀
  pub below : Below (p * p) w
  pub rest : (i : ℕ) → i < k → back_l p L k (residues p w) i ≡ back_l p L (length w₀) (residues p w₀) i
  pub done : (i : ℕ) → k ≤ i → i < length w₀ → get_or x (R i) 0 ≡ back_l p L (length w₀) (residues p w₀) i
  pub other : (t : ℕ) → ((i : ℕ) → k ≤ i → i < length w₀ → R i ≢ t) → get_or x t 0 ≡ get_or x₀ t 0

module _ (p : ℕ) (L : Matrix) (R : Vector) (w₀ w w' x₀ x : List ℕ) (k v t : ℕ) (pos : 0 < p) (h : k < length w₀) (et : t ≡ R k) (ht : t < length x)
    (apart : (i : ℕ) → i < length w₀ → R i ≡ R k → i ≡ k) (ev : v ≡ quotient p L k (residues p w)) (taken : Subtracted p (λ j. v * L k j) w w') (s : Lowering p L R w₀ w x₀ x (suc k)) where
  abbrev before : Vector
  before = back_l p L k (less p (residues p w) (quotient p L k (residues p w)) (L k))

  small : v < p
  small = rw ev (mod-lt (residues p w k * inv_mod p (L k k)) pos)

  value : v ≡ back_l p L (length w₀) (residues p w₀) k
  unfolding back_l
  value = ev ∙ sym (put-here before k (quotient p L k (residues p w))) ∙ s.rest k (omega arith)

  placed : (i : ℕ) → k ≤ i → i < length w₀ → Dec (i ≡ k) → get_or (set x t v) (R i) 0 ≡ back_l p L (length w₀) (residues p w₀) i
  placed i g b (yes e) =
      ap (λ (u : ℕ). get_or (set x t v) u 0) (ap R e ∙ sym et) ∙ get_or-set_same x t v 0 ht ∙ value ∙ ap (back_l p L (length w₀) (residues p w₀)) (sym e)
  placed i g b (no e) = get_or-set_other x t (R i) v 0 (λ q. e (apart i b (q ∙ et))) ∙ s.done i (omega arith) b

  lowering-turn : Lowering p L R w₀ w' x₀ (set x t v) k
  unfolding back_l
  lowering-turn =
      record {
        long = taken.long ∙ s.long;
        long-x = length-set x t v ∙ s.long-x;
        below = taken.below;
        rest = λ i g.
            back_l-ext p L k (residues p w') (less p (residues p w) (quotient p L k (residues p w)) (L k))
            (λ l b. subtracted-less p v (L k) w w' l (omega (arith, small)) (omega (arith, s.long)) taken ∙ ap (λ (y : ℕ). less p (residues p w) y (L k) l) ev) i
            ∙ sym (put_other before k (quotient p L k (residues p w)) i (λ e. omega arith))
            ∙ s.rest i (omega arith);
        done = λ i g b. placed i g b (ℕ_discrete i k);
        other = λ u g. get_or-set_other x t u v 0 (λ e. g k (omega arith) h (sym et ∙ sym e)) ∙ s.other u (λ i b c. g i (omega arith) c);
      }

module _ (p : ℕ) (L : Compressed) (R w₀ x₀ : List ℕ) (d : LowerOrder p L R w₀ x₀) where
  whole : Distinct (length x₀) (length x₀) (vector R)
  whole = permutation-means (length x₀) R d.long d.order

  pub place-below : (k : ℕ) → k < length w₀ → get_or R k 0 < length x₀
  place-below k h = whole.below k (omega (arith, d.rank))

  module _ (w x : List ℕ) where
    -- one turn of the loop, which goes down
    pub lowering-next : (w' : List ℕ) (k v t : ℕ) → 0 < k → k ≤ length w₀ → t ≡ get_or R (k - 1) 0 → QuotientTaken p L (k - 1) w w' v
        → Lowering p (matrix L) (vector R) w₀ w x₀ x k → Lowering p (matrix L) (vector R) w₀ w' x₀ (set x t v) (k - 1)
    lowering-next w' k v t h le et turned s =
        let lt : k - 1 < length w₀ = omega arith in
        lowering-turn p (matrix L) (vector R) w₀ w w' x₀ x (k - 1) v t (omega (arith, d.ready.prime.two)) lt et
        (omega (arith, et, place-below (k - 1) lt, s.long-x))
        (λ i g e. whole.apart i (k - 1) (omega (arith, d.rank)) (omega (arith, d.rank)) e)
        turned.value turned.taken
        (subst (λ (n : ℕ). Lowering p (matrix L) (vector R) w₀ w x₀ x n) (let q : k ≡ suc (k - 1) = omega arith in q) s)

    -- and its end
    module _ (s : Lowering p (matrix L) (vector R) w₀ w x₀ x 0) where
      abbrev r : ℕ
      r = length w₀

      abbrev v : Vector
      v = back_l p (matrix L) r (residues p w₀)

      top : Distinct r (length x₀) (vector R)
      top = record { below = place-below; apart = λ a b h g e. whole.apart a b (omega (arith, d.rank)) (omega (arith, d.rank)) e }

      at : (i : ℕ) → i < length x₀ → Dec (i < r) → get_or x (vector R i) 0 ≡ place r (vector R) v (vector R i)
      at i h (yes g) = s.done i (omega arith) g ∙ sym (place_at r (length x₀) (vector R) v top i g)
      at i h (no g) =
          s.other (vector R i) (λ k b c e. omega (arith, whole.apart k i (omega (arith, d.rank)) h e))
          ∙ ap (λ (l : List ℕ). get_or l (vector R i) 0) d.clear ∙ zeros-at (length x₀) (vector R i)
          ∙ sym (place-off r (vector R) v (vector R i) (λ k b e. omega (arith, whole.apart k i (omega (arith, d.rank)) h e)))

      cell : (t : ℕ) → t < length x₀ → get_or x t 0 ≡ place r (vector R) v t
      cell t h = let o = onto (length x₀) (vector R) whole t h in let q : vector R o.0 ≡ t = o.2 in rw (← q) (at o.0 o.1 (dec_lt o.0 r))

    pub lowering-ends : (k : ℕ) → k ≡ 0 → Lowering p (matrix L) (vector R) w₀ w x₀ x k
        → x ≡ tabulate (length x₀) (place (length w₀) (vector R) (back_l p (matrix L) (length w₀) (residues p w₀)))
    lowering-ends k e s =
        tabulated (length x₀) (place (length w₀) (vector R) (back_l p (matrix L) (length w₀) (residues p w₀))) x s.long-x
        (cell (subst (λ (n : ℕ). Lowering p (matrix L) (vector R) w₀ w x₀ x n) e s))

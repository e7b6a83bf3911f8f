-- What the number of closed columns beside a row's pivot column says of that column.
use mathlib.Core.Path.{◌≡◌, refl, sym, ap, ◌∙◌}
use mathlib.Core.Logic.{◌≢◌}
use mathlib.Core.Bool.{Bool, true, false, cond, ◌&&◌}
use mathlib.Core.List.{List, [], ◌∷◌}
use Prim.Native.Nat.{ℕ, suc, ◌+◌, ◌*◌, ◌≤◌, ◌<◌}
use native.Mathlib.Omega.{arith}
use lib.Dec.{eqb, ltb}
use lib.ListN.{length, get_or, drop}
use borrow.Author.Tests.{eqb-true, eqb-false, ltb-true}
use Rattle.lists.proofs.Bools.{and_left, and_right}
use Rattle.lists.proofs.Steps.{drop-step, drop-end}
use Rattle.algebra.specs.Congruence.{◌≈⟨◌⟩◌}
use Rattle.algebra.specs.Sum.{δ}
use Rattle.algebra.specs.Matrix.{Vector}
use Rattle.algebra.proofs.Congruence.{exact, ◌⊙◌, ◌⊕◌, ◌⊗◌, same_refl}
use Rattle.algebra.proofs.Dot.{δ-same, δ-other}
use Rattle.sparse.specs.Form.{values_ok}
use Rattle.sparse.specs.Row.{weigh, entry}
use Rattle.answer_open.specs.Counting.{closed_at, closed_others}

-- ---- the loop over the columns

pub at_most : (d : ℕ) (o : List ℕ) (c : ℕ) → closed_at d o c ≤ 1
unfolding closed_at
at_most d o c = go (eqb c d) (eqb (get_or o c 0) 0)
  where
    go : (a b : Bool) → cond a 0 (cond b 1 0) ≤ 1
    go true b = omega arith
    go false true = omega arith
    go false false = omega arith

-- the first t columns are counted
pub record Counting (d : ℕ) (o cs : List ℕ) (found t : ℕ) : Type 0 where
  pub inside : t ≤ length cs
  pub most : found ≤ t
  pub rest : found + closed_others d o (drop t cs) ≡ closed_others d o cs

pub counting-turn : (d : ℕ) (o cs : List ℕ) (found t c v : ℕ) → t < length cs → c ≡ get_or cs t 0 → v ≡ closed_at d o c → Counting d o cs found t → Counting d o cs (found + v) (t + 1)
unfolding closed_others
counting-turn d o cs found t c v h ec ev s =
    record {
      inside = omega arith;
      most = omega (arith, at_most d o c, s.most);
      rest = omega (arith, s.rest, ap (closed_others d o) (drop-step cs t c h ec));
    }

pub counting-ends : (d : ℕ) (o cs : List ℕ) (found t : ℕ) → length cs ≤ t → Counting d o cs found t → found ≡ closed_others d o cs
unfolding closed_others
counting-ends d o cs found t h s = omega (arith, s.rest, ap (closed_others d o) (drop-end cs t s.inside h))

-- ---- what the count says

-- z is 0 at the columns of cs, other than d, at which o is not 0
abbrev pub ZeroAtOpen : (p d : ℕ) (o cs : List ℕ) (z : Vector) → Type 0
ZeroAtOpen p d o cs z = (t : ℕ) → t < length cs → get_or cs t 0 ≢ d → (get_or o (get_or cs t 0) 0 ≡ 0 → ⊥) → z (get_or cs t 0) ≈⟨ p ⟩ 0

-- the three kinds of columns
data Kind (d : ℕ) (o : List ℕ) (c : ℕ) : Type 0 where
  own : c ≡ d → closed_at d o c ≡ 0 → Kind d o c
  opened : c ≢ d → (get_or o c 0 ≡ 0 → ⊥) → closed_at d o c ≡ 0 → Kind d o c
  shut : c ≢ d → get_or o c 0 ≡ 0 → closed_at d o c ≡ 1 → Kind d o c

kind : (d : ℕ) (o : List ℕ) (c : ℕ) → Kind d o c
unfolding closed_at
kind d o c = go (eqb c d) refl (eqb (get_or o c 0) 0) refl
  where
    go : (a : Bool) → eqb c d ≡ a → (b : Bool) → eqb (get_or o c 0) 0 ≡ b → Kind d o c
    go true e b f = own (eqb-true c d e) (ap (λ (a : Bool). cond a 0 (cond (eqb (get_or o c 0) 0) 1 0)) e)
    go false e true f = shut (eqb-false c d e) (eqb-true (get_or o c 0) 0 f) (λ i. cond (e i) 0 (cond (f i) 1 0))
    go false e false f = opened (eqb-false c d e) (eqb-false (get_or o c 0) 0 f) (λ i. cond (e i) 0 (cond (f i) 1 0))

module _ (p d : ℕ) (o : List ℕ) where
  -- no closed column but d: the row times z is its share at d
  pub count_none : (cs vs : List ℕ) → closed_others d o cs ≡ 0 → (z : Vector) → ZeroAtOpen p d o cs z → weigh cs vs z ≈⟨ p ⟩ entry cs vs d * z d
  unfolding closed_others weigh
  count_none [] vs h z v = exact (omega arith)
  count_none (c ∷ cs) [] h z v = exact (omega arith)
  count_none (c ∷ cs) (x ∷ vs) h z v = go (kind d o c) (count_none cs vs (omega arith) z (λ t g. v (suc t) (omega arith)))
    where
      go : Kind d o c → weigh cs vs z ≈⟨ p ⟩ entry cs vs d * z d → x * z c + weigh cs vs z ≈⟨ p ⟩ (x * δ c d + entry cs vs d) * z d
      go (own e q) rest =
          same_refl (x * z c) ⊕ rest
          ⊙ exact (omega (arith, ap (λ (t : ℕ). x * z t) e, ap (λ (t : ℕ). x * t * z d) (ap (δ c) (sym e) ∙ δ-same c)))
      go (opened e q k) rest =
          same_refl x ⊗ v 0 (omega arith) e q ⊕ rest
          ⊙ exact (omega (arith, ap (λ (t : ℕ). x * t * z d) (δ-other c d e)))
      go (shut e q k) rest = absurd (omega arith)

  -- the one closed column but d, at place t, with its value
  pub record One (cs vs : List ℕ) : Type 0 where
    pub at : ℕ
    pub inside : at < length cs
    pub other : get_or cs at 0 ≢ d
    pub shut : get_or o (get_or cs at 0) 0 ≡ 0
    pub value : ℕ
    pub nonzero : 0 < value
    pub below : value < p
    pub share : (z : Vector) → ZeroAtOpen p d o cs z → weigh cs vs z ≈⟨ p ⟩ entry cs vs d * z d + value * z (get_or cs at 0)

  pub count-one : (cs vs : List ℕ) → values_ok p vs ≡ true → length cs ≡ length vs → closed_others d o cs ≡ 1 → One cs vs
  unfolding closed_others weigh values_ok
  count-one [] vs s l h = absurd (omega arith)
  count-one (c ∷ cs) [] s l h = absurd (omega arith)
  count-one (c ∷ cs) (x ∷ vs) s l h = go (kind d o c) (λ q. count-one cs vs (and_right (ltb 0 x && ltb x p) (values_ok p vs) s) (omega arith) q)
    where
      later : One cs vs → ((z : Vector) → ZeroAtOpen p d o (c ∷ cs) z → x * z c ≈⟨ p ⟩ x * δ c d * z d) → One (c ∷ cs) (x ∷ vs)
      later r first =
          record {
            at = suc r.at;
            inside = omega (arith, r.inside);
            other = r.other;
            shut = r.shut;
            value = r.value;
            nonzero = r.nonzero;
            below = r.below;
            share = λ z v. first z v ⊕ r.share z (λ t g. v (suc t) (omega arith)) ⊙ exact (omega arith);
          }

      go : Kind d o c → (closed_others d o cs ≡ 1 → One cs vs) → One (c ∷ cs) (x ∷ vs)
      go (own e q) rest = later (rest (omega arith)) (λ z v. exact (omega (arith, ap (λ (t : ℕ). x * z t) e, ap (λ (t : ℕ). x * t * z d) (ap (δ c) (sym e) ∙ δ-same c))))
      go (opened e q k) rest =
          later (rest (omega arith)) (λ z v. same_refl x ⊗ v 0 (omega arith) e q ⊙ exact (omega (arith, ap (λ (t : ℕ). x * t * z d) (δ-other c d e))))
      go (shut e q k) rest =
          let b = and_left (ltb 0 x && ltb x p) (values_ok p vs) s in
          record {
            at = 0;
            inside = omega arith;
            other = e;
            shut = q;
            value = x;
            nonzero = ltb-true 0 x (and_left (ltb 0 x) (ltb x p) b);
            below = ltb-true x p (and_right (ltb 0 x) (ltb x p) b);
            share = λ z v.
                same_refl (x * z c) ⊕ count_none cs vs (omega arith) z (λ t g. v (suc t) (omega arith))
                ⊙ exact (omega (arith, ap (λ (t : ℕ). x * t * z d) (δ-other c d e)));
          }

-- The loop of `solve_upper`.
use mathlib.Core.Path.{◌≡◌, refl, sym, ap, ◌∙◌}
use mathlib.Core.Bool.{cond}
use mathlib.Core.List.{List}
use Prim.Native.Nat.{ℕ, zero, suc, ◌-◌, ◌%◌, ◌<◌}
use native.Mathlib.Nat.{mod-lt}
use native.Mathlib.Decide.{ℕ_discrete}
use native.Mathlib.Omega.{arith}
use lib.Dec.{eqb}
use lib.ListN.{length, get_or, set, length-set}
use lib.Seq.{get_or-set_same, get_or-set_other}
use Rattle.lists.specs.Tabulate.{tabulate}
use Rattle.lists.proofs.Tabulate.{tabulated}
use Rattle.algebra.specs.Sum.{dot}
use Rattle.algebra.specs.Matrix.{Vector, Matrix, vector}
use Rattle.algebra.proofs.Dot.{dot-eq}
use Rattle.sparse.specs.Row.{Below}
use Rattle.sparse.proofs.Subtraction.{below_set}
use Rattle.row_space.specs.Substitution.{put, missing, back_u}
use Rattle.row_space.proofs.Substitutions.{put-here, put_other}

pub back_u-ext : (p m : ℕ) (C : Vector) (U : Matrix) (k : ℕ) (z z' : Vector) → ((t : ℕ) → t < m → z t ≡ z' t) → (t : ℕ) → t < m → back_u p m C U k z t ≡ back_u p m C U k z' t
unfolding back_u
back_u-ext p m C U zero z z' h t g = h t g
back_u-ext p m C U (suc k) z z' h t g =
    let e : missing p m (U k) z ≡ missing p m (U k) z' = ap (λ (x : ℕ). (p - x % p) % p) (dot-eq m {u = U k} (λ i b. refl) h) in
    back_u-ext p m C U k (put z (C k) (missing p m (U k) z)) (put z' (C k) (missing p m (U k) z')) (λ i b. λ j. cond (eqb i (C k)) (e j) (h i b j)) t g

-- the pivot cells of rows k and above are filled
pub record Filling (p : ℕ) (C : Vector) (U : Matrix) (r : ℕ) (z₀ z : List ℕ) (k : ℕ) : Type 0 where
  pub long : length z ≡ length z₀
  pub small : Below p z
  pub rest : (t : ℕ) → t < length z₀ → back_u p (length z₀) C U k (vector z) t ≡ back_u p (length z₀) C U r (vector z₀) t

pub set-put : (z : List ℕ) (c v t : ℕ) → c < length z → vector (set z c v) t ≡ put (vector z) c v t
set-put z c v t h = elim (ℕ_discrete t c) [
  | yes e ↦ ap (λ (i : ℕ). get_or (set z c v) i 0) e ∙ get_or-set_same z c v 0 h ∙ sym (ap (put (vector z) c v) e ∙ put-here (vector z) c v)
  | no e ↦ get_or-set_other z c t v 0 e ∙ sym (put_other (vector z) c v t e)
]

pub filling-turn : (p : ℕ) (C : Vector) (U : Matrix) (r : ℕ) (z₀ z : List ℕ) (k v c : ℕ) → 0 < p → 0 < k → c ≡ C (k - 1) → c < length z
    → v ≡ missing p (length z) (U (k - 1)) (vector z) → Filling p C U r z₀ z k → Filling p C U r z₀ (set z c v) (k - 1)
unfolding back_u
filling-turn p C U r z₀ z k v c pos h ec hc ev s =
    record {
      long = length-set z c v ∙ s.long;
      small = below_set p z c v s.small (rw ev (mod-lt (p - dot (length z) (U (k - 1)) (vector z) % p) pos));
      rest = λ t g.
          back_u-ext p (length z₀) C U (k - 1) (vector (set z c v)) (put (vector z) (C (k - 1)) (missing p (length z₀) (U (k - 1)) (vector z)))
          (λ i b. set-put z c v i hc ∙ (λ j. put (vector z) (ec j) (value j) i)) t g
          ∙ ap (λ (n : ℕ). back_u p (length z₀) C U n (vector z) t) (let q : suc (k - 1) ≡ k = omega arith in q)
          ∙ s.rest t g;
    }
  where
    value : v ≡ missing p (length z₀) (U (k - 1)) (vector z)
    value = ev ∙ ap (λ (n : ℕ). missing p n (U (k - 1)) (vector z)) s.long

pub filling-ends : (p : ℕ) (C : Vector) (U : Matrix) (r : ℕ) (z₀ z : List ℕ) (k : ℕ) → k ≡ 0 → Filling p C U r z₀ z k → z ≡ tabulate (length z₀) (back_u p (length z₀) C U r (vector z₀))
unfolding back_u
filling-ends p C U r z₀ z k e s =
    tabulated (length z₀) (back_u p (length z₀) C U r (vector z₀)) z s.long
    (λ t h. ap (λ (n : ℕ). back_u p (length z₀) C U n (vector z) t) (sym e) ∙ s.rest t h)

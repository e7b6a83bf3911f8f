-- The loop of `settle`.
use mathlib.Core.Path.{◌≡◌, refl, sym, ap, ◌∙◌}
use mathlib.Core.Bool.{cond}
use mathlib.Core.List.{List}
use Prim.Native.Nat.{ℕ, zero, suc, ◌+◌, ◌-◌, ◌%◌, ◌≤◌, ◌<◌}
use native.Mathlib.Omega.{arith}
use lib.Dec.{eqb}
use lib.ListN.{length, get_or, set, length-set}
use Rattle.lists.specs.Tabulate.{tabulate}
use Rattle.lists.proofs.Tabulate.{tabulated}
use Rattle.algebra.specs.Matrix.{Vector, Matrix, vector}
use Rattle.algebra.proofs.Dot.{dot-eq}
use Rattle.sparse.specs.Row.{Below}
use Rattle.sparse.proofs.Subtraction.{below_set}
use Rattle.row_space.specs.Substitution.{put}
use Rattle.row_space.proofs.UpperLoop.{set-put}
use Rattle.column_space.specs.Substitution.{lacking, settle}
use Rattle.column_space.proofs.Substitutions.{lacking-small}

-- what a number has over a row, and the substitution, depend on the cells that are read only
pub lacking-eq : (p m : ℕ) (row s s' : Vector) (d : ℕ) → ((t : ℕ) → t < m → s t ≡ s' t) → lacking p m row s d ≡ lacking p m row s' d
lacking-eq p m row s s' d h = ap (λ (x : ℕ). (d + (p - x % p) % p) % p) (dot-eq m {u = row} (λ i b. refl) h)

pub settle-ext : (p m : ℕ) (C : Vector) (U : Matrix) (t : Vector) (k : ℕ) (s s' : Vector) → ((j : ℕ) → j < m → s j ≡ s' j)
    → (j : ℕ) → j < m → settle p m C U t k s j ≡ settle p m C U t k s' j
unfolding settle
settle-ext p m C U t zero s s' h j g = h j g
settle-ext p m C U t (suc k) s s' h j g =
    let e = lacking-eq p m (U k) s s' (t k) h in
    settle-ext p m C U t k (put s (C k) (lacking p m (U k) s (t k))) (put s' (C k) (lacking p m (U k) s' (t k)))
    (λ i b. λ x. cond (eqb i (C k)) (e x) (h i b x)) j g

-- the cells of the rows k and above are filled
pub record Settling (p : ℕ) (C : Vector) (U : Matrix) (t s₀ s : List ℕ) (k : ℕ) : Type 0 where
  pub inside : k ≤ length t
  pub long : length s ≡ length s₀
  pub small : Below p s
  pub rest : (j : ℕ) → j < length s₀ → settle p (length s₀) C U (vector t) k (vector s) j ≡ settle p (length s₀) C U (vector t) (length t) (vector s₀) j

pub settling-turn : (p : ℕ) (C : Vector) (U : Matrix) (t s₀ s : List ℕ) (k v c : ℕ) → 0 < p → 0 < k → c ≡ C (k - 1) → c < length s
    → v ≡ lacking p (length s) (U (k - 1)) (vector s) (get_or t (k - 1) 0) → Settling p C U t s₀ s k → Settling p C U t s₀ (set s c v) (k - 1)
unfolding settle
settling-turn p C U t s₀ s k v c pos h ec hc ev g =
    record {
      inside = omega (arith, g.inside);
      long = length-set s c v ∙ g.long;
      small = below_set p s c v g.small (rw ev (lacking-small p (length s) (U (k - 1)) (vector s) (get_or t (k - 1) 0) pos));
      rest = λ j b.
          settle-ext p (length s₀) C U (vector t) (k - 1) (vector (set s c v)) (put (vector s) (C (k - 1)) (lacking p (length s₀) (U (k - 1)) (vector s) (get_or t (k - 1) 0)))
          (λ i l. set-put s c v i hc ∙ (λ x. put (vector s) (ec x) (value x) i)) j b
          ∙ ap (λ (n : ℕ). settle p (length s₀) C U (vector t) n (vector s) j) (let q : suc (k - 1) ≡ k = omega arith in q)
          ∙ g.rest j b;
    }
  where
    value : v ≡ lacking p (length s₀) (U (k - 1)) (vector s) (get_or t (k - 1) 0)
    value = ev ∙ ap (λ (n : ℕ). lacking p n (U (k - 1)) (vector s) (get_or t (k - 1) 0)) g.long

pub settling-ends : (p : ℕ) (C : Vector) (U : Matrix) (t s₀ s : List ℕ) (k : ℕ) → k ≡ 0 → Settling p C U t s₀ s k
    → s ≡ tabulate (length s₀) (settle p (length s₀) C U (vector t) (length t) (vector s₀))
unfolding settle
settling-ends p C U t s₀ s k e g =
    tabulated (length s₀) (settle p (length s₀) C U (vector t) (length t) (vector s₀)) s g.long
    (λ j h. ap (λ (n : ℕ). settle p (length s₀) C U (vector t) n (vector s) j) (sym e) ∙ g.rest j h)

-- A reduction by another name for the vector: it looks at the columns of the working row only.
use mathlib.Core.Path.{◌≡◌, ap₂, ◌∙◌}
use mathlib.Core.Bool.{Bool}
use mathlib.Core.List.{List}
use Prim.Native.Nat.{ℕ, zero, suc, ◌+◌, ◌-◌, ◌*◌, ◌%◌, ◌≤◌, ◌<◌}
use native.Mathlib.Omega.{arith}
use lib.ListN.{length}
use Rattle.lists.proofs.Tabulate.{tabulate-ext}
use Rattle.algebra.specs.Matrix.{Vector, Matrix, vector}
use Rattle.algebra.specs.Reduction.{reduced, multiples}
use Rattle.sparse.specs.Matrix.{Compressed, matrix}
use Rattle.factor_reduce.specs.Gathering.{MultiplesGathered}

reduced-ext : (p r m : ℕ) (C : Vector) (U : Matrix) (y z : Vector) → ((k : ℕ) → k < r → C k < m) → ((j : ℕ) → j < m → y j ≡ z j)
    → (k : ℕ) → k ≤ r → (j : ℕ) → j < m → reduced p C U k y j ≡ reduced p C U k z j
unfolding reduced
reduced-ext p r m C U y z inside e zero h j g = e j g
reduced-ext p r m C U y z inside e (suc k) h j g =
    let before = reduced-ext p r m C U y z inside e k (omega arith) in
    ap₂ (λ (a b : ℕ). (a + (p - b) * U k j) % p) (before j g) (before (C k) (inside k h))

module _ (p m : ℕ) (C : List ℕ) (U : Compressed) (y z : Vector) (inside : (k : ℕ) → k < length C → vector C k < m) (e : (j : ℕ) → j < m → y j ≡ z j) where
  same : (k : ℕ) → k ≤ length C → (j : ℕ) → j < m → reduced p (vector C) (matrix U) k y j ≡ reduced p (vector C) (matrix U) k z j
  same = reduced-ext p (length C) m (vector C) (matrix U) y z inside e

  multiples-ext : multiples p (length C) (vector C) (matrix U) y ≡ multiples p (length C) (vector C) (matrix U) z
  unfolding multiples
  multiples-ext =
      tabulate-ext (length C) (λ k. reduced p (vector C) (matrix U) k y (vector C k)) (λ k. reduced p (vector C) (matrix U) k z (vector C k))
      (λ k h. same k (omega arith) (vector C k) (inside k h))

  pub gathered-ext : (l limit : ℕ) (lc₀ lv₀ lc lv w : List ℕ) (over : Bool) (next : ℕ) → MultiplesGathered p m C U y l limit lc₀ lv₀ lc lv w over next
      → MultiplesGathered p m C U z l limit lc₀ lv₀ lc lv w over next
  gathered-ext l limit lc₀ lv₀ lc lv w over next d =
      record {
        fit = rw multiples-ext at d.fit;
        stored = λ o. rw multiples-ext at (d.stored o);
        remainder = λ o. record {
          long = (d.remainder o).long;
          below = (d.remainder o).below;
          cells = λ j h. (d.remainder o).cells j h ∙ same (length C) (omega arith) j h;
        };
      }

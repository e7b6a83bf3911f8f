-- A column is open exactly if every vector that U takes to 0 is 0 there.
use mathlib.Core.Path.{◌≡◌, refl, sym, ap, ◌∙◌}
use mathlib.Core.Logic.{◌⊎◌, inl, inr}
use mathlib.Core.Bool.{Bool, cond}
use Prim.Native.Nat.{ℕ, zero, suc, ◌+◌, ◌-◌, ◌*◌, ◌%◌, ◌≤◌, ◌<◌}
use native.Mathlib.Nat.{mod-eq_of_lt, zero-mod, add-mul-mod_self_left}
use native.Mathlib.Omega.{arith}
use lib.Dec.{eqb, leb}
use borrow.Author.Tests.{le-leb, lt-leb}
use Rattle.lists.specs.Tests.{first}
use Rattle.algebra.specs.Congruence.{◌≈⟨◌⟩◌}
use Rattle.algebra.specs.Sum.{δ}
use Rattle.algebra.specs.Prime.{Prime}
use Rattle.algebra.specs.Matrix.{Vector, Matrix, Permutation}
use Rattle.algebra.specs.RowSpace.{InRowSpace, InKernel}
use Rattle.algebra.specs.Factors.{Factors}
use Rattle.algebra.specs.Reduction.{reduced, AllZero, Lowest}
use Rattle.algebra.proofs.Congruence.{exact, ◌⊙◌}
use Rattle.algebra.proofs.Inverse.{one_not_zero}
use Rattle.algebra.proofs.Dot.{dot-δ, δ-same, δ-other}
use Rattle.algebra.proofs.Substitution.{right-none}
use Rattle.algebra.proofs.Verdict.{not-both, verdict, closed-answer}
use Rattle.row_space.proofs.Substitutions.{δ-small, back_u-small, back_u-right}
use Rattle.row_space.proofs.Solutions.{lowest-cases}
use Rattle.row_space.specs.Solve.{lowest_of}
use Rattle.row_space.specs.Substitution.{back_u}
use Rattle.answer_open.specs.Opening.{open_cell}

-- y that is 0 at the pivot columns of the first k rows is not changed by them
pub reduced-kept : (p m : ℕ) (C : Vector) (U : Matrix) (y : Vector) (k : ℕ) → ((l : ℕ) → l < k → (C l < m) × (y (C l) ≡ 0)) → ((j : ℕ) → j < m → y j < p)
    → (j : ℕ) → j < m → reduced p C U k y j ≡ y j
unfolding reduced
reduced-kept p m C U y zero off small j h = refl
reduced-kept p m C U y (suc k) off small j h =
    let ih = reduced-kept p m C U y k (λ l g. off l (omega arith)) small in
    let o = off k (omega arith) in
    (λ i. (ih j h i + (p - (ih (C k) o.0 ∙ o.1) i) * U k j) % p)
    ∙ ap (λ (x : ℕ). (y j + x * U k j) % p) (let q : p - 0 ≡ p = omega arith in q)
    ∙ add-mul-mod_self_left (y j) p (U k j)
    ∙ mod-eq_of_lt (small j h)

-- U as its own product: the rows of U are their own pivot rows
module _ {p : ℕ} (prime : Prime p) (m r : ℕ) (C : Vector) (U : Matrix) (columns : Permutation m C) (rank : r ≤ m)
    (left : (k j : ℕ) → j < k → k < r → U k (C j) ≡ 0) (unit : (k : ℕ) → k < r → U k (C k) ≡ 1) where
  factors : Factors p r m r U (λ i. i) C δ U
  factors =
      record {
        rows = record { below = λ a h. h; apart = λ a b h g e. e };
        columns = columns;
        rank-rows = omega arith;
        rank-columns = rank;
        L-above = λ i k h g. δ-other i k (omega arith);
        L-diagonal = λ k h e. one_not_zero prime (rw (δ-same k) at e);
        U-left = left;
        U-unit = unit;
        product = λ i j h g. exact (sym (dot-δ r i (λ k. U k j) h));
      }

  small : (j t : ℕ) → t < m → δ j t < p
  small j t h = δ-small p prime.two j t

  -- z is 0 wherever U z = 0
  abbrev pub Vanishes : ℕ → Type 0
  Vanishes j = (z : Vector) → InKernel p r m U z → z j ≈⟨ p ⟩ 0

  zero-vanishes : (j : ℕ) → j < m → AllZero m (reduced p C U r (δ j)) → Vanishes j
  unfolding InRowSpace
  zero-vanishes j h none z k =
      let o = (verdict prime factors (δ j) (small j)).0 none in
      exact (sym (dot-δ m j z h)) ⊙ not-both r m U (δ j) o.0 z o.1 k

  lowest-differs : (j : ℕ) → j < m → (l : ℕ) → Lowest m (reduced p C U r (δ j)) l → (z : Vector) × InKernel p r m U z × (¬ (z j ≈⟨ p ⟩ 0))
  lowest-differs j h l low =
      let a = closed-answer prime factors (δ j) (small j) l low in
      (a.0, a.1.kernel, λ e. a.2 (exact (dot-δ m j a.0 h) ⊙ e))

  -- the cell of a column, by its verdict
  abbrev cell : ℕ → ℕ
  cell j = open_cell p m C U r j

  abbrev Cases : ℕ → Type 0
  Cases j = ((cell j ≡ 1) × AllZero m (reduced p C U r (δ j))) ⊎ ((cell j ≡ 0) × ((l : ℕ) × Lowest m (reduced p C U r (δ j)) l))

  cases : (j : ℕ) → Cases j
  unfolding open_cell lowest_of
  cases j = go (lowest-cases m w)
    where
      w : Vector
      w = reduced p C U r (δ j)

      f : ℕ
      f = first m (λ i. eqb (reduced p C U r (δ j) i) 0)

      mark : Bool → ℕ
      mark b = cond b 1 0

      go : ((m ≤ f) × AllZero m w) ⊎ ((f < m) × Lowest m w f) → ((mark (leb m f) ≡ 1) × AllZero m w) ⊎ ((mark (leb m f) ≡ 0) × ((l : ℕ) × Lowest m w l))
      go (inl (h, none)) = inl (ap mark (le-leb m f h), none)
      go (inr (h, low)) = inr (ap mark (lt-leb m f h), (f, low))

  pub open-vanishes : (j : ℕ) → j < m → (cell j ≡ 0 → ⊥) → Vanishes j
  open-vanishes j h e = go (cases j)
    where
      go : Cases j → Vanishes j
      go (inl (q, none)) = zero-vanishes j h none
      go (inr (q, low)) = absurd (e q)

  pub vanishes-open : (j : ℕ) → j < m → Vanishes j → cell j ≡ 1
  vanishes-open j h v = go (cases j)
    where
      go : Cases j → cell j ≡ 1
      go (inl (q, none)) = q
      go (inr (q, (l, low))) = let (z, k, d) = lowest-differs j h l low in absurd (d (v z k))

  pub closed-differs : (j : ℕ) → j < m → cell j ≡ 0 → (z : Vector) × InKernel p r m U z × (¬ (z j ≈⟨ p ⟩ 0))
  closed-differs j h e = go (cases j)
    where
      go : Cases j → (z : Vector) × InKernel p r m U z × (¬ (z j ≈⟨ p ⟩ 0))
      go (inl (q, none)) = absurd (omega arith)
      go (inr (q, (l, low))) = lowest-differs j h l low

  pub differs-closed : (j : ℕ) → j < m → (z : Vector) → InKernel p r m U z → ¬ (z j ≈⟨ p ⟩ 0) → cell j ≡ 0
  differs-closed j h z k d = go (cases j)
    where
      go : Cases j → cell j ≡ 0
      go (inl (q, none)) = absurd (d (zero-vanishes j h none z k))
      go (inr (q, low)) = q

  -- substitution through U from values that are 0 at the pivot columns ends at 0 in every open column
  pub filled-closed : (z : Vector) → ((t : ℕ) → z t < p) → ((l : ℕ) → l < r → z (C l) ≡ 0) → (j : ℕ) → j < m → (back_u p m C U r z j ≡ 0 → ⊥) → cell j ≡ 0
  filled-closed z residues off j h nonzero =
      let e = back_u-small p m C U r z (omega (arith, prime.two)) residues j in
      differs-closed j h (back_u p m C U r z)
      (right-none prime factors (back_u p m C U r z) (back_u-right prime factors r (omega arith) z (record { done = λ l b g. absurd (omega arith); todo = off })))
      (λ q. nonzero (sym (mod-eq_of_lt e) ∙ q.same ∙ zero-mod p))

  -- a column that is no pivot column is never open
  pub other-closed : (i : ℕ) → r ≤ i → i < m → cell (C i) ≡ 0
  unfolding AllZero
  other-closed i h g = go (cases (C i))
    where
      off : (l : ℕ) → l < r → (C l < m) × (δ (C i) (C l) ≡ 0)
      off l b = (columns.below l (omega arith), δ-other (C i) (C l) (λ e. omega (arith, columns.apart i l g (omega arith) e)))

      go : Cases (C i) → cell (C i) ≡ 0
      go (inl (q, none)) =
          let one = reduced-kept p m C U (δ (C i)) r off (small (C i)) (C i) (columns.below i g) ∙ δ-same (C i) in
          absurd (omega (arith, one, none (C i) (columns.below i g)))
      go (inr (q, low)) = q

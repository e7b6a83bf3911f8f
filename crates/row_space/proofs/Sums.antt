-- Questions that add up (document 02, slip 14), for EVERY set that passes, whoever made it: y and y' are lists of m residues, and q is a y + b y', modulo p.
-- All answers are from one set: x depends on its pivot rows.
--   open-sum           y and y' open with x and x': q is open with a x + b x', modulo p, for all a and b, and z is all zero
--   closed-sum         y open, y' closed, b not 0 modulo p: q is answered as y' is (closed, x all zero, the z of y')
--   closed-sum-left    the same where y is the closed one, and a is not 0 modulo p
--   sum-closed         so where one of the two is open and the other closed, y + y' is closed with the z of the closed one, whichever comes first
-- Nothing is said of two closed questions: they may add up to an open one (case_table has such a pair).
use mathlib.Core.Path.{◌≡◌, sym, ap, ◌∙◌}
use mathlib.Core.Logic.{inl, inr, ◌↔◌}
use mathlib.Core.List.{List}
use Prim.Native.Nat.{ℕ, ◌<◌}
use native.Mathlib.Decide.{ℕ_discrete}
use native.Mathlib.Omega.{arith}
use lib.Dec.{eqb}
use lib.ListN.{length}
use borrow.Author.Tests.{eq-eqb, ne_eqb}
use Rattle.lists.specs.Filled.{zeros}
use Rattle.lists.proofs.Tests.{first-ext}
use Rattle.refusals.specs.Outcome.{Passed}
use Rattle.algebra.specs.Congruence.{◌≈⟨◌⟩◌}
use Rattle.algebra.specs.Sum.{δ}
use Rattle.algebra.specs.Prime.{Prime}
use Rattle.algebra.specs.Matrix.{Vector, vector}
use Rattle.algebra.specs.RowSpace.{InRowSpace}
use Rattle.algebra.specs.Factors.{Factors}
use Rattle.algebra.specs.Reduction.{AllZero, Lowest}
use Rattle.algebra.specs.Answer.{OpenAnswer}
use Rattle.algebra.specs.Mixed.{mixed_list}
use Rattle.algebra.proofs.Inverse.{one_not_zero}
use Rattle.algebra.proofs.Verdict.{verdict}
use Rattle.algebra.proofs.Mixed.{mixed-length, mixed-small, mixed-same, mixed-turned, open-mixed, reduced-zeros}
use Rattle.sparse.specs.Matrix.{Compressed, matrix}
use Rattle.sparse.specs.Set.{Set}
use Rattle.pluq.specs.Judge.{judge}
use Rattle.row_space.specs.Substitution.{through_u}
use Rattle.row_space.specs.Solve.{remainder, lowest_of, Solved, opened, closed, solve}
use Rattle.row_space.specs.declared.Verdict.TheVariants.{Open, Closed}
use Rattle.row_space.proofs.Solutions.{solve-cases}
use Rattle.row_space.proofs.Theorems.{product, open-exactly, open-answer, open-only, closed-column, closed-answer}

-- ---- the closed answer

-- it depends on y by the lowest column of its remainder alone
closed_at : (p n m : ℕ) → Set → ℕ → Solved
closed_at p n m s j = closed n (through_u p m s.r (vector s.C) (matrix s.U) (δ j))

solve-not-zero : (p n m : ℕ) (s : Set) (y : Vector) (j : ℕ) → j < m → ¬ (remainder p s y j ≡ 0) → solve p n m s y ≡ closed_at p n m s (lowest_of m (remainder p s y))
unfolding AllZero closed_at
solve-not-zero p n m s y j h other = elim (solve-cases p n m s y) [ inl c ↦ absurd (other (c.0 j h)) | inr c ↦ c.1 ]

-- two vectors that are 0 at the same places have one lowest place
lowest-same : (m : ℕ) (v w : Vector) → ((j : ℕ) → j < m → (v j ≡ 0) ↔ (w j ≡ 0)) → lowest_of m v ≡ lowest_of m w
unfolding lowest_of
lowest-same m v w h = first-ext m (λ j. eqb (v j) 0) (λ j. eqb (w j) 0) (λ j g. go j (h j g) (ℕ_discrete (v j) 0))
  where
    go : (j : ℕ) → (v j ≡ 0) ↔ (w j ≡ 0) → Dec (v j ≡ 0) → eqb (v j) 0 ≡ eqb (w j) 0
    go j (there, back) (yes e) = eq-eqb (v j) 0 e ∙ sym (eq-eqb (w j) 0 (there e))
    go j (there, back) (no e) = ne_eqb (v j) 0 e ∙ sym (ne_eqb (w j) 0 (λ f. e (back f)))

module _ {p : ℕ} (prime : Prime p) (n m : ℕ) (A : Compressed) (s : Set) (long-R : length s.R ≡ n) (long-C : length s.C ≡ m) (ok : judge p n m A s ≡ Passed) where
  pos : 0 < p
  pos = omega (arith, prime.two)

  factors : Factors p n m s.r (matrix A) (vector s.R) (vector s.C) (matrix s.L) (matrix s.U)
  factors = product prime n m A s long-R long-C ok

  module _ (y y' : List ℕ) (small : (j : ℕ) → j < m → vector y j < p) (small' : (j : ℕ) → j < m → vector y' j < p) (a b : ℕ) where
    abbrev q : List ℕ
    q = mixed_list m p a b y y'

    residues : (j : ℕ) → j < m → vector q j < p
    residues = mixed-small m p a b y y' pos

    -- ---- both open

    pub open-sum : (solve p n m s (vector y)).verdict ≡ Open → (solve p n m s (vector y')).verdict ≡ Open
        → solve p n m s (vector (mixed_list m p a b y y')) ≡ opened m (mixed_list n p a b (solve p n m s (vector y)).x (solve p n m s (vector y')).x)
    unfolding InRowSpace
    open-sum e e' = λ i. record { verdict = is_open i; x = is_x i; z = is-z i }
      where
        x : List ℕ
        x = (solve p n m s (vector y)).x

        x' : List ℕ
        x' = (solve p n m s (vector y')).x

        sum : List ℕ
        sum = mixed_list n p a b x x'

        right : OpenAnswer p n m s.r (matrix A) (vector s.R) (vector q) (vector sum)
        right =
            open-mixed a b y y' x x' pos factors.rows
            (open-answer prime n m A s long-R long-C ok y small e).1
            (open-answer prime n m A s long-R long-C ok y' small' e').1

        is_open : (solve p n m s (vector q)).verdict ≡ Open
        is_open = (open-exactly prime n m A s long-R long-C ok q residues).1 (vector sum, right.combines)

        is_x : (solve p n m s (vector q)).x ≡ sum
        is_x = sym (open-only prime n m A s long-R long-C ok q residues is_open sum (mixed-length n p a b x x') right)

        is-z : (solve p n m s (vector q)).z ≡ zeros m
        is-z = (open-answer prime n m A s long-R long-C ok q residues is_open).2

    -- ---- one open, one closed

    pub closed-sum : (solve p n m s (vector y)).verdict ≡ Open → (solve p n m s (vector y')).verdict ≡ Closed → ¬ (b ≈⟨ p ⟩ 0)
        → solve p n m s (vector (mixed_list m p a b y y')) ≡ solve p n m s (vector y')
    closed-sum e e' other =
        solve-not-zero p n m s (vector q) column low.within (λ h. low.here ((same column low.within).0 h))
        ∙ ap (closed_at p n m s) (lowest-same m (remainder p s (vector q)) (remainder p s (vector y')) same)
        ∙ sym (solve-not-zero p n m s (vector y') column low.within low.here)
      where
        column : ℕ
        column = lowest_of m (remainder p s (vector y'))

        low : Lowest m (remainder p s (vector y')) column
        low = closed-column prime n m A s long-R long-C ok y' small' e'

        none : AllZero m (remainder p s (vector y))
        none = (verdict prime factors (vector y) small).1 ((open-exactly prime n m A s long-R long-C ok y small).0 e)

        same : (j : ℕ) → j < m → (remainder p s (vector q) j ≡ 0) ↔ (remainder p s (vector y') j ≡ 0)
        same =
            reduced-zeros p pos m s.r (vector s.C) (matrix s.U) (λ k h. factors.columns.below k (omega (arith, factors.rank-columns)))
            a b (vector y) (vector y') (vector q) small small' residues (mixed-same m p a b y y') prime none other

  module _ (y y' : List ℕ) (small : (j : ℕ) → j < m → vector y j < p) (small' : (j : ℕ) → j < m → vector y' j < p) where
    pub closed-sum-left : (a b : ℕ) → (solve p n m s (vector y)).verdict ≡ Closed → (solve p n m s (vector y')).verdict ≡ Open → ¬ (a ≈⟨ p ⟩ 0)
        → solve p n m s (vector (mixed_list m p a b y y')) ≡ solve p n m s (vector y)
    closed-sum-left a b e e' other = ap (λ (q : List ℕ). solve p n m s (vector q)) (mixed-turned m p a b y y') ∙ closed-sum y' y small' small b a e' e other

    -- ---- y + y', in the slip's words

    pub sum-closed : ((solve p n m s (vector y)).verdict ≡ Open → (solve p n m s (vector y')).verdict ≡ Closed
        → solve p n m s (vector (mixed_list m p 1 1 y y')) ≡ closed n (solve p n m s (vector y')).z)
        × ((solve p n m s (vector y)).verdict ≡ Closed → (solve p n m s (vector y')).verdict ≡ Open
        → solve p n m s (vector (mixed_list m p 1 1 y y')) ≡ closed n (solve p n m s (vector y)).z)
    sum-closed = (
      λ e e'. closed-sum y y' small small' 1 1 e e' (one_not_zero prime) ∙ whole y' small' e',
      λ e e'. closed-sum-left 1 1 e e' (one_not_zero prime) ∙ whole y small e,
    )
      where
        whole : (v : List ℕ) → ((j : ℕ) → j < m → vector v j < p) → (solve p n m s (vector v)).verdict ≡ Closed → solve p n m s (vector v) ≡ closed n (solve p n m s (vector v)).z
        whole v h e = λ i. record { verdict = e i; x = (closed-answer prime n m A s long-R long-C ok v h e).2 i; z = (solve p n m s (vector v)).z }

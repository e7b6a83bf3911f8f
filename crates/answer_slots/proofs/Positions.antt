-- The lowest-numbered slot of a row order, by positions.
--   position-none     the number of slots stands for no slot: its position is itself
--   position-below    a number that has a position among the slots is a slot
--   lowest-most       the lowest-numbered place is at most the number of places
--   lowest-at         the slot at position i, where g is not 0 there and is 0 at each lower-numbered slot, is the lowest-numbered
--   lowest-none       where g is 0 at each slot there is none
use mathlib.Core.Path.{◌≡◌, sym, ap, ◌∙◌}
use mathlib.Core.Logic.{◌≢◌, inl, inr}
use mathlib.Core.Bool.{not}
use Prim.Native.Nat.{ℕ, ◌≤◌, ◌<◌}
use native.Mathlib.Decide.{dec_lt}
use native.Mathlib.Omega.{arith}
use lib.Dec.{eqb}
use borrow.Author.Tests.{eq-eqb, ne_eqb}
use Rattle.lists.proofs.Tests.{first-all, first-fails}
use Rattle.algebra.specs.Matrix.{Vector, Permutation}
use Rattle.algebra.specs.Reduction.{AllZero}
use Rattle.row_space.specs.Solve.{lowest_of}
use Rattle.row_space.proofs.Solutions.{lowest-cases}
use Rattle.column_space.specs.Slots.{position}
use Rattle.column_space.proofs.Solutions.{position-of, position_at}

pub lowest-most : (n : ℕ) (v : Vector) → lowest_of n v ≤ n
unfolding AllZero lowest_of
lowest-most n v = elim (lowest-cases n v) [
  | inl c ↦ let e : lowest_of n v ≡ n = first-all n (λ j. eqb (v j) 0) (λ j b. eq-eqb (v j) 0 (c.1 j b)) in omega arith
  | inr c ↦ omega (arith, c.0)
]

module _ (n : ℕ) (R : Vector) (order : Permutation n R) where
  pub position-none : position n R n ≡ n
  unfolding position
  position-none = first-all n (λ k. not (eqb (R k) n)) (λ k b. ap not (ne_eqb (R k) n (λ e. omega (arith, order.below k b))))

  pub position-below : (t : ℕ) → t ≤ n → position n R t < n → t < n
  position-below t h b = elim (dec_lt t n) [
    | yes l ↦ l
    | no l ↦ absurd (let e : t ≡ n = omega arith in omega (arith, ap (position n R) e, position-none))
  ]

  module _ (g : Vector) where
    pub lowest-at : (i : ℕ) → i < n → g i ≢ 0 → ((k : ℕ) → k < n → R k < R i → g k ≡ 0) → lowest_of n (λ t. g (position n R t)) ≡ R i
    unfolding lowest_of
    lowest-at i h here before =
        first-fails n (λ t. eqb (g (position n R t)) 0) (R i) (order.below i h)
        (λ t b. let (l, e) = position_at n R order t (omega (arith, order.below i h)) in eq-eqb (g (position n R t)) 0 (before (position n R t) l (omega (arith, e))))
        (ne_eqb (g (position n R (R i))) 0 (λ e. here (ap g (sym (position-of n R order i h)) ∙ e)))

    pub lowest-none : ((k : ℕ) → k < n → g k ≡ 0) → lowest_of n (λ t. g (position n R t)) ≡ n
    unfolding lowest_of
    lowest-none none =
        first-all n (λ t. eqb (g (position n R t)) 0) (λ t b. eq-eqb (g (position n R t)) 0 (none (position n R t) (position_at n R order t b).0))

-- The search for the lowest-numbered slot with a gap: how it starts, and what it ends with.
use mathlib.Core.Path.{◌≡◌, sym, ap, ◌∙◌}
use mathlib.Core.List.{List}
use Prim.Native.Nat.{ℕ, ◌≤◌, ◌<◌}
use native.Mathlib.Decide.{ℕ_discrete, dec_lt}
use native.Mathlib.Omega.{arith}
use lib.ListN.{length}
use Rattle.algebra.specs.Matrix.{Vector, vector, Permutation}
use Rattle.sparse.specs.Matrix.{Compressed, matrix}
use Rattle.pluq.proofs.Orders.{permutation-means}
use Rattle.row_space.specs.Solve.{lowest_of}
use Rattle.column_space.specs.Slots.{position}
use Rattle.column_space.proofs.Solutions.{position-of}
use Rattle.answer_slots.specs.Solving.{gap_from, LowestBelow, lowest_position}
use Rattle.answer_slots.specs.Needs.{GapsReady}
use Rattle.answer_slots.proofs.Positions.{position-none, lowest-at, lowest-none}

pub record Searching (n : ℕ) (R g : Vector) (i b : ℕ) : Type 0 where
  pub inside : i ≤ n
  pub lowest : LowestBelow n R g i b

module _ (p : ℕ) (L : Compressed) (R h t : List ℕ) (d : GapsReady p L R h t) where
  abbrev n : ℕ
  n = length h

  abbrev g : Vector
  g = gap_from p (vector R) (matrix L) (vector h) t

  order : Permutation n (vector R)
  order = permutation-means n R d.long d.order

  module _ (i b : ℕ) (over : length h ≤ i) (s : LowestBelow (length h) (vector R) (gap_from p (vector R) (matrix L) (vector h) t) i b) where
    -- a slot that comes before the slot at b has no gap
    none_before : (k : ℕ) → k < n → (b < n → vector R k < vector R b) → g k ≡ 0
    none_before k h before = elim (ℕ_discrete (g k) 0) [
      | yes e ↦ e
      | no e ↦ let (m, q) = s.least k (omega arith) e in absurd (omega (arith, q, before m))
    ]

    pub search-ends : b ≡ lowest_position p (length h) (vector R) (matrix L) (vector h) t
    unfolding lowest_position
    search-ends = go (dec_lt b n)
      where
        go : Dec (b < n) → b ≡ position n (vector R) (lowest_of n (λ j. g (position n (vector R) j)))
        go (yes l) =
            sym (ap (position n (vector R)) (lowest-at n (vector R) order g b l (s.found l).1 (λ k m q. none_before k m (λ x. q)))
            ∙ position-of n (vector R) order b l)
        go (no l) =
            let e : b ≡ n = omega (arith, s.within) in
            e
            ∙ sym (ap (position n (vector R)) (lowest-none n (vector R) order g (λ k m. none_before k m (λ x. absurd (l x))))
            ∙ position-none n (vector R) order)

-- One slot of the search for a gap: it is there, and how it moves the lowest-numbered slot with a gap.
use mathlib.Core.Path.{◌≡◌}
use mathlib.Core.Logic.{◌≢◌}
use mathlib.Core.List.{List}
use Prim.Native.Nat.{ℕ, ◌+◌, ◌≤◌, ◌<◌}
use native.Mathlib.Decide.{ℕ_discrete, dec_lt}
use native.Mathlib.Omega.{arith}
use lib.ListN.{length, get_or}
use Rattle.algebra.specs.Matrix.{Vector, vector}
use Rattle.sparse.specs.Matrix.{Compressed, matrix}
use Rattle.pluq.proofs.Orders.{permutation-means}
use Rattle.answer_slots.specs.Solving.{SlotAt, gap_from, LowestBelow}
use Rattle.answer_slots.specs.Needs.{GapReady, BetterReady}

-- ---- a slot and its row

module _ (p i : ℕ) (L : Compressed) (R h t : List ℕ) (d : GapReady p i L R h t) (c : ℕ) (e : c ≡ get_or R i 0) where
  pub slot-inside : c < length h
  slot-inside = omega (arith, e, (permutation-means (length h) R d.ready.long d.ready.order).below i d.inside)

-- ---- one position more

module _ (n : ℕ) (R g : Vector) (i b : ℕ) (s : LowestBelow n R g i b) where
  -- a position below i + 1 is below i, or i itself
  last : (P : ℕ → Type 0) → ((k : ℕ) → k < i → P k) → P i → (k : ℕ) → k < i + 1 → P k
  last P below here k h = elim (ℕ_discrete k i) [
    | yes e ↦ rw e here
    | no e ↦ below k (omega arith)
  ]

  earlier : b < n → (b < i + 1) × (g b ≢ 0)
  earlier h = (omega (arith, (s.found h).0), (s.found h).1)

  -- the slot at b comes no later
  stays : b < n → R b ≤ R i → LowestBelow n R g (i + 1) b
  stays h le = record { within = s.within; found = earlier; least = last (λ k. g k ≢ 0 → (b < n) × (R b ≤ R k)) s.least (λ e. (h, le)) }

  -- the slot at i has no gap
  pub slot-passes : g i ≡ 0 → LowestBelow n R g (i + 1) b
  slot-passes z = record { within = s.within; found = earlier; least = last (λ k. g k ≢ 0 → (b < n) × (R b ≤ R k)) s.least (λ e. absurd (e z)) }

-- the same by the slots x at b and y at i, where b may be no position
module _ (p i b : ℕ) (L : Compressed) (R h t : List ℕ) (d : BetterReady p i b L R h t) (x y : ℕ) (at_b : SlotAt R b x) (at_i : SlotAt R i y) where
  long : length R ≡ length h
  long = d.gap.ready.long

  new : (y ≡ vector R i) × (y < length h)
  new =
      let e = at_i.inside (omega (arith, d.gap.inside, long)) in
      (e, omega (arith, e, (permutation-means (length h) R long d.gap.ready.order).below i d.gap.inside))

  position : x ≤ y → b < length h
  position le = elim (dec_lt b (length h)) [
    | yes l ↦ l
    | no l ↦ absurd (omega (arith, at_b.beyond (omega (arith, long)), new.1, long))
  ]

  pub slot-stays : x ≤ y → LowestBelow (length h) (vector R) (gap_from p (vector R) (matrix L) (vector h) t) (i + 1) b
  slot-stays le =
      stays (length h) (vector R) (gap_from p (vector R) (matrix L) (vector h) t) i b d.lowest (position le)
      (omega (arith, at_b.inside (omega (arith, long, position le)), new.0))

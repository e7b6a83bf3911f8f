-- The lengths of a call's lists with slot values, as they are tested.
use mathlib.Core.Path.{◌≡◌}
use mathlib.Core.Bool.{Bool, true, false, ◌&&◌}
use mathlib.Core.List.{List}
use Prim.Native.Nat.{ℕ}
use lib.Dec.{eqb}
use lib.ListN.{length}
use borrow.Author.Tests.{eqb-true, eq-eqb, ne_eqb}
use Rattle.lists.proofs.Bools.{and_left, and_right, and_both, chain-false, chain-true}
use Rattle.call_slots.specs.Calls.{slot_lengths}

-- ---- how the test comes out

module _ (n m k : ℕ) (h : List ℕ) (a b : ℕ) where
  abbrev cells : Bool
  cells = eqb a m && eqb b n

  pub owners-differ : (k ≡ m → ⊥) → false ≡ slot_lengths n m k h a b
  unfolding slot_lengths
  owners-differ f = chain-false (eqb k m) (eqb (length h) n && cells) (ne_eqb k m f)

  module _ (owners : k ≡ m) where
    after-owners : (r : Bool) → r ≡ (eqb (length h) n && cells) → r ≡ slot_lengths n m k h a b
    unfolding slot_lengths
    after-owners r e = chain-true (eqb k m) (eqb (length h) n && cells) r (eq-eqb k m owners) e

    pub values-differ : (length h ≡ n → ⊥) → false ≡ slot_lengths n m k h a b
    values-differ f = after-owners false (chain-false (eqb (length h) n) cells (ne_eqb (length h) n f))

-- ---- what passed

pub lengths-are : (n m k : ℕ) (h : List ℕ) (a b : ℕ) → slot_lengths n m k h a b ≡ true → (k ≡ m) × (length h ≡ n) × (a ≡ m) × (b ≡ n)
unfolding slot_lengths
lengths-are n m k h a b e =
    let rest = and_right (eqb k m) (eqb (length h) n && (eqb a m && eqb b n)) e in
    let cells = and_right (eqb (length h) n) (eqb a m && eqb b n) rest in (
      eqb-true k m (and_left (eqb k m) (eqb (length h) n && (eqb a m && eqb b n)) e),
      eqb-true (length h) n (and_left (eqb (length h) n) (eqb a m && eqb b n) rest),
      eqb-true a m (and_left (eqb a m) (eqb b n) cells),
      eqb-true b n (and_right (eqb a m) (eqb b n) cells),
    )

pub lengths-pass : (n m k : ℕ) (h : List ℕ) (a b : ℕ) → k ≡ m → length h ≡ n → a ≡ m → b ≡ n → slot_lengths n m k h a b ≡ true
unfolding slot_lengths
lengths-pass n m k h a b owners values columns rows =
    and_both (eqb k m) (eqb (length h) n && (eqb a m && eqb b n)) (eq-eqb k m owners)
    (and_both (eqb (length h) n) (eqb a m && eqb b n) (eq-eqb (length h) n values) (and_both (eqb a m) (eqb b n) (eq-eqb a m columns) (eq-eqb b n rows)))

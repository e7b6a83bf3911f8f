-- The lengths of a question's lists, as they are tested, and what a question that passed is.
use mathlib.Core.Path.{◌≡◌, refl}
use mathlib.Core.Bool.{true, false, ◌&&◌}
use mathlib.Core.List.{List}
use Prim.Native.Nat.{ℕ}
use lib.Dec.{eqb}
use lib.ListN.{length}
use borrow.Author.Tests.{eqb-true, eq-eqb, ne_eqb}
use Rattle.lists.proofs.Bools.{and_left, and_right, chain-false, chain-true}
use Rattle.call_answer.specs.Calls.{question_lengths}

-- ---- how the test comes out

module _ (n m : ℕ) (y : List ℕ) (a b : ℕ) where
  pub values-differ : (length y ≡ m → ⊥) → false ≡ question_lengths n m y a b
  unfolding question_lengths
  values-differ h = chain-false (eqb (length y) m) (eqb a n && eqb b m) (ne_eqb (length y) m h)

  module _ (values : length y ≡ m) where
    pub columns-tested : a ≡ n → eqb b m ≡ question_lengths n m y a b
    unfolding question_lengths
    columns-tested rows = chain-true (eqb (length y) m) (eqb a n && eqb b m) (eqb b m) (eq-eqb (length y) m values) (chain-true (eqb a n) (eqb b m) (eqb b m) (eq-eqb a n rows) refl)

-- ---- what passed

pub lengths-are : (n m : ℕ) (y : List ℕ) (a b : ℕ) → question_lengths n m y a b ≡ true → (length y ≡ m) × (a ≡ n) × (b ≡ m)
unfolding question_lengths
lengths-are n m y a b h =
    let cells = and_right (eqb (length y) m) (eqb a n && eqb b m) h in (
      eqb-true (length y) m (and_left (eqb (length y) m) (eqb a n && eqb b m) h),
      eqb-true a n (and_left (eqb a n) (eqb b m) cells),
      eqb-true b m (and_right (eqb a n) (eqb b m) cells),
    )

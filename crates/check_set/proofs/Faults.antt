-- The product test of a set, from the first position that differs.
use mathlib.Core.Path.{◌≡◌, sym, ap, ◌∙◌}
use Prim.Native.Nat.{ℕ, ◌≤◌, ◌<◌}
use lib.Dec.{leb}
use borrow.Author.Tests.{le-leb, lt-leb}
use Rattle.lists.specs.Tests.{first}
use Rattle.refusals.specs.Refusals.{unless}
use Rattle.refusals.specs.Outcome.{Passed, Refused}
use Rattle.algebra.specs.Matrix.{Vector, Matrix}
use Rattle.pluq.specs.Judge.{agrees, product_outcome}

-- i is the first position that differs, w the number of columns
module _ (p n m r : ℕ) (A : Matrix) (R : Vector) (L U : Matrix) (w i : ℕ) (wide : w ≡ m) (is : i ≡ first n (agrees p w r A R L U)) where
  at : i ≡ first n (agrees p m r A R L U)
  at = is ∙ ap (λ (k : ℕ). first n (agrees p k r A R L U)) wide

  pub differs : i < n → Refused 14 i ≡ product_outcome n (agrees p m r A R L U)
  unfolding product_outcome
  differs b = (λ j. unless (sym (lt-leb n i b) j) 14 i) ∙ (λ j. unless (leb n (at j)) 14 (at j))

  pub fine : n ≤ i → Passed ≡ product_outcome n (agrees p m r A R L U)
  unfolding product_outcome
  fine b = (λ j. unless (sym (le-leb n i b) j) 14 i) ∙ (λ j. unless (leb n (at j)) 14 (at j))

-- What the tests of shape and of one row's product mean.
use mathlib.Core.Path.{◌≡◌, ap}
use mathlib.Core.Logic.{◌⊎◌, inl, inr}
use mathlib.Core.Bool.{Bool, true, not, ◌||◌}
use Prim.Native.Nat.{ℕ, ◌%◌, ◌≤◌, ◌<◌}
use native.Mathlib.Omega.{arith}
use native.Mathlib.Decide.{dec_lt}
use lib.Dec.{leb, eqb}
use borrow.Author.Tests.{leb-true, le-leb, eqb-true, eqb-false, eq-eqb, ne_eqb, not-true}
use Rattle.lists.specs.Tests.{all}
use Rattle.lists.proofs.Bools.{and_both, and_left, and_right, or_cases, or_right}
use Rattle.lists.proofs.Tests.{all-at, all_pass}
use Rattle.algebra.specs.Congruence.{◌≈⟨◌⟩◌}
use Rattle.algebra.specs.Sum.{dot}
use Rattle.algebra.specs.Matrix.{Vector, Matrix}
use Rattle.pluq.specs.Shape.{lower_row, lower, upper_row, upper}
use Rattle.pluq.specs.Judge.{agrees}

pub record Lower (r : ℕ) (L : Matrix) : Type 0 where
  pub diagonal : (k : ℕ) → k < r → L k k ≡ 0 → ⊥
  pub above : (i k : ℕ) → i < k → k < r → L i k ≡ 0

pub lower-means : (r : ℕ) (L : Matrix) → lower r L ≡ true → Lower r L
unfolding lower lower_row
lower-means r L h =
    record {
      diagonal = λ k g. eqb-false (L k k) 0 (not-true (eqb (L k k) 0) (and_left (not (eqb (L k k) 0)) (all r (λ l. leb l k || eqb (L k l) 0)) (at k g)));
      above = λ i k g b. cell i k g (or_cases (leb k i) (eqb (L i k) 0) (all-at r (λ l. leb l i || eqb (L i l) 0) (and_right (not (eqb (L i i) 0)) (all r (λ l. leb l i || eqb (L i l) 0)) (at i (omega arith))) k b));
    }
  where
    at : (k : ℕ) → k < r → lower_row r (L k) k ≡ true
    at = all-at r (λ k. lower_row r (L k) k) h

    cell : (i k : ℕ) → i < k → (leb k i ≡ true) ⊎ (eqb (L i k) 0 ≡ true) → L i k ≡ 0
    cell i k g (inl e) = let le : k ≤ i = leb-true k i e in absurd (omega arith)
    cell i k g (inr e) = eqb-true (L i k) 0 e

pub lower-holds : (r : ℕ) (L : Matrix) → Lower r L → lower r L ≡ true
unfolding lower lower_row
lower-holds r L s =
    all_pass r (λ k. lower_row r (L k) k)
    (λ k h. and_both (not (eqb (L k k) 0)) (all r (λ l. leb l k || eqb (L k l) 0))
    (ap not (ne_eqb (L k k) 0 (s.diagonal k h)))
    (all_pass r (λ l. leb l k || eqb (L k l) 0) (λ l g. cell k l g (dec_lt k l))))
  where
    cell : (k l : ℕ) → l < r → Dec (k < l) → (leb l k || eqb (L k l) 0) ≡ true
    cell k l g (yes b) = or_right (leb l k) (eq-eqb (L k l) 0 (s.above k l b g))
    cell k l g (no b) = ap (λ (t : Bool). t || eqb (L k l) 0) (le-leb l k (omega arith))

pub record Upper (r : ℕ) (C : Vector) (U : Matrix) : Type 0 where
  pub unit : (k : ℕ) → k < r → U k (C k) ≡ 1
  pub left : (k j : ℕ) → j < k → k < r → U k (C j) ≡ 0

pub upper-means : (r : ℕ) (C : Vector) (U : Matrix) → upper r C U ≡ true → Upper r C U
unfolding upper upper_row
upper-means r C U h =
    record {
      unit = λ k g. eqb-true (U k (C k)) 1 (and_left (eqb (U k (C k)) 1) (all k (λ j. eqb (U k (C j)) 0)) (at k g));
      left = λ k j g b. eqb-true (U k (C j)) 0 (all-at k (λ j. eqb (U k (C j)) 0) (and_right (eqb (U k (C k)) 1) (all k (λ j. eqb (U k (C j)) 0)) (at k b)) j g);
    }
  where
    at : (k : ℕ) → k < r → upper_row C (U k) k ≡ true
    at = all-at r (λ k. upper_row C (U k) k) h

pub upper-holds : (r : ℕ) (C : Vector) (U : Matrix) → Upper r C U → upper r C U ≡ true
unfolding upper upper_row
upper-holds r C U s =
    all_pass r (λ k. upper_row C (U k) k)
    (λ k h. and_both (eqb (U k (C k)) 1) (all k (λ j. eqb (U k (C j)) 0))
    (eq-eqb (U k (C k)) 1 (s.unit k h))
    (all_pass k (λ j. eqb (U k (C j)) 0) (λ j g. eq-eqb (U k (C j)) 0 (s.left k j g h))))

module _ (p m r : ℕ) (A : Matrix) (R : Vector) (L U : Matrix) where
  pub agrees-means : (i : ℕ) → agrees p m r A R L U i ≡ true → (j : ℕ) → j < m → A (R i) j ≈⟨ p ⟩ dot r (L i) (λ k. U k j)
  unfolding agrees
  agrees-means i h j g =
      record { same = eqb-true (A (R i) j % p) (dot r (L i) (λ k. U k j) % p) (all-at m (λ j. eqb (A (R i) j % p) (dot r (L i) (λ k. U k j) % p)) h j g) }

  pub agrees-holds : (i : ℕ) → ((j : ℕ) → j < m → A (R i) j ≈⟨ p ⟩ dot r (L i) (λ k. U k j)) → agrees p m r A R L U i ≡ true
  unfolding agrees
  agrees-holds i h =
      all_pass m (λ j. eqb (A (R i) j % p) (dot r (L i) (λ k. U k j) % p)) (λ j g. eq-eqb (A (R i) j % p) (dot r (L i) (λ k. U k j) % p) (h j g).same)

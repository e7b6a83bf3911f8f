-- The test for a permutation, and that it decides `Permutation`.
use mathlib.Core.Path.{◌≡◌, refl, sym, ap, ◌∙◌}
use mathlib.Core.Bool.{Bool, true, false, not, ◌||◌, false≢true, true≢false}
use mathlib.Core.List.{List, [], ◌∷◌}
use Prim.Native.Nat.{ℕ, zero, suc, ◌<◌}
use native.Mathlib.Omega.{arith}
use native.Mathlib.Nat.{suc_inj}
use lib.Dec.{ltb, eqb}
use lib.ListN.{length, get_or}
use borrow.Author.Tests.{lt-ltb, ltb-true, eqb-true, eq-eqb, not-true}
use Rattle.lists.proofs.Bools.{and_both, and_left, and_right}
use Rattle.algebra.specs.Matrix.{vector, Permutation}
use Rattle.lists.specs.Tests.{among}
use Rattle.pluq.specs.Order.{below, distinct, permutation}

-- by places: every number is below n, and equal numbers stand at one place
pub below_at : (n : ℕ) (xs : List ℕ) → below n xs ≡ true → (i : ℕ) → i < length xs → get_or xs i 0 < n
unfolding below
below_at n [] h i l = absurd (omega arith)
below_at n (x ∷ xs) h zero l = ltb-true x n (and_left (ltb x n) (below n xs) h)
below_at n (x ∷ xs) h (suc i) l = below_at n xs (and_right (ltb x n) (below n xs) h) i (omega arith)

-- the place of one that stands in a list
pub place : (k : ℕ) (xs : List ℕ) → among k xs ≡ true → (i : ℕ) × (i < length xs) × (get_or xs i 0 ≡ k)
unfolding among
place k [] h = absurd (false≢true h)
place k (x ∷ xs) h = go (eqb k x) refl h (λ t. place k xs t)
  where
    go : (t : Bool) → eqb k x ≡ t → (t || among k xs) ≡ true → (among k xs ≡ true → (i : ℕ) × (i < length xs) × (get_or xs i 0 ≡ k)) → (i : ℕ) × (i < suc (length xs)) × (get_or (x ∷ xs) i 0 ≡ k)
    go true e q ih = (0, omega arith, sym (eqb-true k x e))
    go false e q ih = let r = ih q in (suc r.0, omega arith, r.2)

among-at : (xs : List ℕ) (i : ℕ) → i < length xs → among (get_or xs i 0) xs ≡ true
unfolding among
among-at [] i h = absurd (omega arith)
among-at (x ∷ xs) zero h = ap (λ (b : Bool). b || among x xs) (eq-eqb x x refl)
among-at (x ∷ xs) (suc i) h = go (eqb (get_or xs i 0) x) (among-at xs i (omega arith))
  where
    go : (b : Bool) → among (get_or xs i 0) xs ≡ true → (b || among (get_or xs i 0) xs) ≡ true
    go true e = refl
    go false e = e

apart : (xs : List ℕ) → distinct xs ≡ true → (a b : ℕ) → a < length xs → b < length xs → get_or xs a 0 ≡ get_or xs b 0 → a ≡ b
unfolding distinct
apart [] d a b h g e = absurd (omega arith)
apart (x ∷ xs) d zero zero h g e = refl
apart (x ∷ xs) d zero (suc b) h g e =
    absurd (true≢false (sym (among-at xs b (omega arith)) ∙ ap (λ (k : ℕ). among k xs) (sym e) ∙ not-true (among x xs) (and_left (not (among x xs)) (distinct xs) d)))
apart (x ∷ xs) d (suc a) zero h g e =
    absurd (true≢false (sym (among-at xs a (omega arith)) ∙ ap (λ (k : ℕ). among k xs) e ∙ not-true (among x xs) (and_left (not (among x xs)) (distinct xs) d)))
apart (x ∷ xs) d (suc a) (suc b) h g e = ap suc (apart xs (and_right (not (among x xs)) (distinct xs) d) a b (omega arith) (omega arith) e)

distinct_from : (xs : List ℕ) → ((a b : ℕ) → a < length xs → b < length xs → get_or xs a 0 ≡ get_or xs b 0 → a ≡ b) → distinct xs ≡ true
unfolding distinct
distinct_from [] h = refl
distinct_from (x ∷ xs) h =
    and_both (not (among x xs)) (distinct xs) (go (among x xs) refl) (distinct_from xs (λ a b g k e. suc_inj (h (suc a) (suc b) (omega arith) (omega arith) e)))
  where
    go : (t : Bool) → among x xs ≡ t → not t ≡ true
    go true e = let s = place x xs e in let q : 0 ≡ suc s.0 = h 0 (suc s.0) (omega arith) (omega (arith, s.1)) (sym s.2) in absurd (omega arith)
    go false e = refl

below-from : (n : ℕ) (xs : List ℕ) → ((i : ℕ) → i < length xs → get_or xs i 0 < n) → below n xs ≡ true
unfolding below
below-from n [] h = refl
below-from n (x ∷ xs) h = and_both (ltb x n) (below n xs) (lt-ltb x n (h 0 (omega arith))) (below-from n xs (λ i g. h (suc i) (omega arith)))

module _ (n : ℕ) (xs : List ℕ) (long : length xs ≡ n) where
  pub permutation-means : permutation xs ≡ true → Permutation n (vector xs)
  unfolding permutation
  permutation-means h =
      record {
        below = λ a g. rw (← long) (below_at (length xs) xs (and_left (below (length xs) xs) (distinct xs) h) a (omega arith));
        apart = λ a b g k e. apart xs (and_right (below (length xs) xs) (distinct xs) h) a b (omega arith) (omega arith) e;
      }

  pub permutation-holds : Permutation n (vector xs) → permutation xs ≡ true
  unfolding permutation
  permutation-holds d =
      and_both (below (length xs) xs) (distinct xs)
      (below-from (length xs) xs (λ i h. rw long (d.below i (omega arith))))
      (distinct_from xs (λ a b h g e. d.apart a b (omega arith) (omega arith) e))

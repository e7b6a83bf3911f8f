-- A permutation is found by marking the cell of each number.
use mathlib.Core.Path.{◌≡◌, refl, sym, ap, ◌∙◌}
use mathlib.Core.Bool.{Bool, true, false, not, ◌&&◌, ◌||◌, and-true}
use mathlib.Core.List.{List, [], ◌∷◌}
use Prim.Native.Nat.{ℕ, ◌+◌, ◌≤◌, ◌<◌}
use native.Mathlib.Omega.{arith}
use native.Mathlib.Nat.{le_trans}
use lib.Dec.{ltb, eqb}
use lib.ListN.{length, get_or, drop, set, length-set}
use lib.Seq.{get_or-set_same, get_or-set_other}
use borrow.Author.Tests.{lt-ltb, le-ltb, eq-eqb, ne_eqb, eqb-true, eqb-false, ltb-true}
use Rattle.lists.specs.Filled.{zeros}
use Rattle.lists.proofs.Filled.{zeros-at}
use Rattle.lists.proofs.Steps.{drop-step, drop-end}
use Rattle.lists.specs.Tests.{among}
use Rattle.pluq.specs.Order.{below, distinct, permutation}

-- what the loop does: each number below n, its cell not marked yet
pub marked : ℕ → List ℕ → List ℕ → Bool
marked n m [] = true
marked n m (x ∷ xs) = (ltb x n && eqb (get_or m x 0) 0) && marked n (set m x 1) xs

-- no number's cell is marked
free : List ℕ → List ℕ → Bool
free m [] = true
free m (x ∷ xs) = eqb (get_or m x 0) 0 && free m xs

swap : (a b f : Bool) → (a && (b && f)) ≡ (b && (a && f))
swap true b f = refl
swap false true f = refl
swap false false f = refl

free-set : (m : List ℕ) (x : ℕ) (ys : List ℕ) → x < length m → free (set m x 1) ys ≡ (not (among x ys) && free m ys)
unfolding free among
free-set m x [] h = refl
free-set m x (y ∷ ys) h = go (free-set m x ys h) (eqb x y) refl
  where
    go : free (set m x 1) ys ≡ (not (among x ys) && free m ys) → (t : Bool) → eqb x y ≡ t → (eqb (get_or (set m x 1) y 0) 0 && free (set m x 1) ys) ≡ (not (eqb x y || among x ys) && (eqb (get_or m y 0) 0 && free m ys))
    go ih true e =
        let q : x ≡ y = eqb-true x y e in
        ap (λ (v : ℕ). eqb v 0 && free (set m x 1) ys) (ap (λ (j : ℕ). get_or (set m x 1) j 0) (sym q) ∙ get_or-set_same m x 1 0 h)
        ∙ sym (ap (λ (t : Bool). not (t || among x ys) && (eqb (get_or m y 0) 0 && free m ys)) e)
    go ih false e =
        ap (λ (v : ℕ). eqb v 0 && free (set m x 1) ys) (get_or-set_other m x y 1 0 (λ q. eqb-false x y e (sym q)))
        ∙ ap (λ (t : Bool). eqb (get_or m y 0) 0 && t) ih
        ∙ swap (eqb (get_or m y 0) 0) (not (among x ys)) (free m ys)
        ∙ sym (ap (λ (t : Bool). not (t || among x ys) && (eqb (get_or m y 0) 0 && free m ys)) e)

shuffle : (z b d a f : Bool) → (z && (b && (d && (a && f)))) ≡ (b && ((a && d) && (z && f)))
shuffle true true true true f = refl
shuffle true true true false f = refl
shuffle true true false true f = refl
shuffle true true false false f = refl
shuffle true false d a f = refl
shuffle false true true true f = refl
shuffle false true false true f = refl
shuffle false true d false f = refl
shuffle false false d a f = refl

marked-is : (n : ℕ) (m xs : List ℕ) → n ≤ length m → marked n m xs ≡ (below n xs && (distinct xs && free m xs))
unfolding marked below distinct free
marked-is n m [] h = refl
marked-is n m (x ∷ xs) h = go (marked-is n (set m x 1) xs (let e : length (set m x 1) ≡ length m = length-set m x 1 in omega arith)) (ltb x n) refl
  where
    go : marked n (set m x 1) xs ≡ (below n xs && (distinct xs && free (set m x 1) xs)) → (t : Bool) → ltb x n ≡ t
        → ((ltb x n && eqb (get_or m x 0) 0) && marked n (set m x 1) xs) ≡ ((ltb x n && below n xs) && ((not (among x xs) && distinct xs) && (eqb (get_or m x 0) 0 && free m xs)))
    go ih true e =
        ap (λ (t : Bool). (t && eqb (get_or m x 0) 0) && marked n (set m x 1) xs) e
        ∙ ap (λ (t : Bool). eqb (get_or m x 0) 0 && t) (ih ∙ ap (λ (t : Bool). below n xs && (distinct xs && t)) (free-set m x xs (le_trans (ltb-true x n e) h)))
        ∙ shuffle (eqb (get_or m x 0) 0) (below n xs) (distinct xs) (not (among x xs)) (free m xs)
        ∙ sym (ap (λ (t : Bool). (t && below n xs) && ((not (among x xs) && distinct xs) && (eqb (get_or m x 0) 0 && free m xs))) e)
    go ih false e =
        ap (λ (t : Bool). (t && eqb (get_or m x 0) 0) && marked n (set m x 1) xs) e
        ∙ sym (ap (λ (t : Bool). (t && below n xs) && ((not (among x xs) && distinct xs) && (eqb (get_or m x 0) 0 && free m xs))) e)

free-zeros : (k : ℕ) (xs : List ℕ) → free (zeros k) xs ≡ true
unfolding free
free-zeros k [] = refl
free-zeros k (x ∷ xs) = ap (λ (v : ℕ). eqb v 0 && free (zeros k) xs) (zeros-at k x) ∙ free-zeros k xs

-- marking from a row of zeros finds whether the list is a permutation
pub marked-zeros : (n : ℕ) (m xs : List ℕ) → n ≡ length xs → n ≤ length m → m ≡ zeros (length m) → marked n m xs ≡ permutation xs
unfolding permutation
marked-zeros n m xs e h z =
    marked-is n m xs h
    ∙ ap (λ (t : Bool). below n xs && (distinct xs && t)) (ap (λ (r : List ℕ). free r xs) z ∙ free-zeros (length m) xs)
    ∙ ap (λ (t : Bool). below n xs && t) (and-true (distinct xs))
    ∙ ap (λ (k : ℕ). below k xs && distinct xs) e

-- the loop's turns
module _ (n : ℕ) (m l : List ℕ) (i v : ℕ) (h : i < length l) (q : v ≡ get_or l i 0) where
  step : marked n m (drop i l) ≡ ((ltb v n && eqb (get_or m v 0) 0) && marked n (set m v 1) (drop (i + 1) l))
  unfolding marked
  step = ap (marked n m) (drop-step l i v h q)

  pub marked-high : n ≤ v → marked n m (drop i l) ≡ false
  marked-high t = step ∙ (λ j. (le-ltb v n t j && eqb (get_or m v 0) 0) && marked n (set m v 1) (drop (i + 1) l))

  pub marked-twice : v < n → (get_or m v 0 ≡ 0 → ⊥) → marked n m (drop i l) ≡ false
  marked-twice t u = step ∙ (λ j. (lt-ltb v n t j && ne_eqb (get_or m v 0) 0 u j) && marked n (set m v 1) (drop (i + 1) l))

  pub marked-on : v < n → get_or m v 0 ≡ 0 → marked n m (drop i l) ≡ marked n (set m v 1) (drop (i + 1) l)
  marked-on t u = step ∙ (λ j. (lt-ltb v n t j && eq-eqb (get_or m v 0) 0 u j) && marked n (set m v 1) (drop (i + 1) l))

pub marked-end : (n : ℕ) (m l : List ℕ) (i : ℕ) → i ≤ length l → length l ≤ i → marked n m (drop i l) ≡ true
unfolding marked
marked-end n m l i h k = ap (marked n m) (drop-end l i h k)

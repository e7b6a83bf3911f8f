-- Lists by place: one element more at the end, two lists joined, and lists that have every number below n.
use mathlib.Core.Path.{◌≡◌, refl, sym, ap, ◌∙◌, subst}
use mathlib.Core.Bool.{Bool, true, false, ◌||◌, false≢true}
use mathlib.Core.List.{List, [], ◌∷◌, ◌++◌, map}
use Prim.Native.Nat.{ℕ, zero, suc, ◌<◌}
use native.Mathlib.Omega.{arith}
use lib.Dec.{eqb}
use lib.ListN.{length, get_or, length-append, get_or-append}
use lib.Seq.{get_or-append_seam}
use borrow.Author.Tests.{eqb-true}
use Rattle.algebra.specs.Matrix.{Permutation, vector}
use Rattle.algebra.proofs.Dot.{below_suc}
use Rattle.algebra.proofs.Finite.{onto, choose}
use Rattle.lists.specs.Tests.{among}

-- ---- lists of anything

module _ {A : Type 0} where
  pub snoc-length : (xs : List A) (y : A) → length (xs ++ (y ∷ [])) ≡ suc (length xs)
  snoc-length xs y = length-append xs (y ∷ []) ∙ omega arith

  -- what holds of each element and its place
  pub snoc-each : (d : A) (xs : List A) (y : A) (P : ℕ → A → Type 0) → ((i : ℕ) → i < length xs → P i (get_or xs i d)) → P (length xs) y
      → (i : ℕ) → i < length (xs ++ (y ∷ [])) → P i (get_or (xs ++ (y ∷ [])) i d)
  snoc-each d xs y P others last i h =
      below_suc (λ i. P i (get_or (xs ++ (y ∷ [])) i d)) (length xs)
      (subst (P (length xs)) (sym (get_or-append_seam xs y [] d)) last)
      (λ i l. subst (P i) (sym (get_or-append xs (y ∷ []) d i l)) (others i l)) i (omega (arith, snoc-length xs y))

  pub map-append : {B : Type 0} (f : A → B) (xs ys : List A) → map f (xs ++ ys) ≡ map f xs ++ map f ys
  map-append f [] ys = refl
  map-append {B} f (x ∷ xs) ys = ap (λ (l : List B). f x ∷ l) (map-append f xs ys)

-- what holds of the elements at the same place of two lists, and of two more, holds of the lists joined
pub append-both : {A B : Type 0} (P : A → B → Type 0) (d : A) (e : B) (xs xs' : List A) (ys ys' : List B) → length xs ≡ length ys
    → ((i : ℕ) → i < length xs → P (get_or xs i d) (get_or ys i e)) → ((i : ℕ) → i < length xs' → P (get_or xs' i d) (get_or ys' i e))
    → (i : ℕ) → i < length (xs ++ xs') → P (get_or (xs ++ xs') i d) (get_or (ys ++ ys') i e)
append-both P d e [] xs' [] ys' long front back i h = back i h
append-both P d e [] xs' (y ∷ ys) ys' long front back i h = absurd (omega arith)
append-both P d e (x ∷ xs) xs' [] ys' long front back i h = absurd (omega arith)
append-both P d e (x ∷ xs) xs' (y ∷ ys) ys' long front back zero h = front 0 (omega arith)
append-both P d e (x ∷ xs) xs' (y ∷ ys) ys' long front back (suc i) h =
    append-both P d e xs xs' ys ys' (omega arith) (λ j l. front (suc j) (omega arith)) back i (omega arith)

-- ---- lists of numbers

pub among-append : (xs ys : List ℕ) (x : ℕ) → among x (xs ++ ys) ≡ (among x xs || among x ys)
unfolding among
among-append [] ys x = refl
among-append (y ∷ xs) ys x = go (eqb x y) (among-append xs ys x)
  where
    go : (b : Bool) → among x (xs ++ ys) ≡ (among x xs || among x ys) → (b || among x (xs ++ ys)) ≡ ((b || among x xs) || among x ys)
    go true ih = refl
    go false ih = ih

pub among-place : (xs : List ℕ) (x : ℕ) → among x xs ≡ true → (a : ℕ) × (a < length xs) × (get_or xs a 0 ≡ x)
unfolding among
among-place [] x h = absurd (false≢true h)
among-place (y ∷ xs) x h = go (eqb x y) refl h (among-place xs x)
  where
    go : (b : Bool) → eqb x y ≡ b → (b || among x xs) ≡ true → (among x xs ≡ true → (a : ℕ) × (a < length xs) × (get_or xs a 0 ≡ x))
        → (a : ℕ) × (a < length (y ∷ xs)) × (get_or (y ∷ xs) a 0 ≡ x)
    go true e h ih = (0, omega arith, sym (eqb-true x y e))
    go false e h ih = let r = ih h in (suc r.0, omega (arith, r.1), r.2)

-- n numbers among which is each number below n are a permutation
covers : (n : ℕ) (w : ℕ → ℕ) → ((t : ℕ) → t < n → (a : ℕ) × (a < n) × (w a ≡ t)) → Permutation n w
covers n w each = go (choose (λ t a. (a < n) × (w a ≡ t)) n (λ t h. let s = each t h in (s.0, (s.1, s.2))))
  where
    go : (g : ℕ → ℕ) × ((t : ℕ) → t < n → (g t < n) × (w (g t) ≡ t)) → Permutation n w
    go (g, at) = record { below = λ a h. let s = back a h in omega (arith, s.1, s.2); apart = λ a b h l e. let s = back a h in let t = back b l in s.3 ∙ ap g (sym s.2 ∙ e ∙ t.2) ∙ sym t.3 }
      where
        inverse : Permutation n g
        inverse = record { below = λ t h. (at t h).0; apart = λ s t h l e. sym (at s h).1 ∙ ap w e ∙ (at t l).1 }

        back : (a : ℕ) → a < n → (t : ℕ) × (t < n) × (w a ≡ t) × (a ≡ g t)
        back a h = let s = onto n g inverse a h in (s.0, s.1, ap w (sym s.2) ∙ (at s.0 s.1).1, sym s.2)

pub listed : (n : ℕ) (xs : List ℕ) → length xs ≡ n → ((x : ℕ) → x < n → among x xs ≡ true) → Permutation n (vector xs)
listed n xs long h = covers n (vector xs) (λ t l. let s = among-place xs t (h t l) in (s.0, omega (arith, s.1), s.2))

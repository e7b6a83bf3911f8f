-- Distinct numbers below n, and then the others rising, are a permutation.
use mathlib.Core.Path.{◌≡◌, refl, sym, ap, ◌∙◌}
use mathlib.Core.Logic.{◌⊎◌, inl, inr}
use mathlib.Core.Bool.{Bool, true, false, cond, ◌||◌, or-true}
use mathlib.Core.List.{List, [], ◌∷◌, ◌++◌, append-nil}
use Prim.Native.Nat.{ℕ, zero, suc, ◌+◌, ◌≤◌, ◌<◌}
use native.Mathlib.Nat.{eq-or-lt_of_le, le_of_suc-le-suc}
use native.Mathlib.Decide.{dec_lt}
use native.Mathlib.Omega.{arith}
use lib.Dec.{eqb}
use lib.ListN.{length, get_or, length-append, get_or-append}
use lib.Seq.{get_or_at}
use borrow.Author.Tests.{eq-eqb, ne_eqb}
use Rattle.algebra.specs.Matrix.{Distinct, Permutation, vector}
use Rattle.lists.specs.Tests.{among}
use Rattle.lists.specs.Rest.{rest}
use Rattle.algebra.proofs.Listed.{snoc-each, among-append, among-place, listed}

-- ---- each number below n is in the list or among the others

rest-among : (xs : List ℕ) (n x : ℕ) → x < n → among x xs ≡ false → among x (rest xs n) ≡ true
unfolding rest among
rest-among xs zero x h e = absurd (omega arith)
rest-among xs (suc k) x h e =
    among-append (rest xs k) (cond (among k xs) [] (k ∷ [])) x ∙ go (eq-or-lt_of_le (le_of_suc-le-suc h)) (λ l. rest-among xs k x l e)
  where
    go : (x ≡ k) ⊎ (x < k) → (x < k → among x (rest xs k) ≡ true) → (among x (rest xs k) || among x (cond (among k xs) [] (k ∷ []))) ≡ true
    go (inl q) ih =
        ap (λ (b : Bool). among x (rest xs k) || among x (cond b [] (k ∷ []))) (ap (λ (y : ℕ). among y xs) (sym q) ∙ e)
        ∙ ap (λ (b : Bool). among x (rest xs k) || (b || false)) (eq-eqb x k q)
        ∙ or-true (among x (rest xs k))
    go (inr l) ih = ap (λ (b : Bool). b || among x (cond (among k xs) [] (k ∷ []))) (ih l)

pub completed-among : (xs : List ℕ) (n x : ℕ) → x < n → among x (xs ++ rest xs n) ≡ true
completed-among xs n x h = among-append xs (rest xs n) x ∙ go (among x xs) refl
  where
    go : (b : Bool) → among x xs ≡ b → (b || among x (rest xs n)) ≡ true
    go true e = refl
    go false e = rest-among xs n x h e

-- the others are below n
pub rest-each : (xs : List ℕ) (n k : ℕ) → k < length (rest xs n) → get_or (rest xs n) k 0 < n
unfolding rest
rest-each xs zero k h = absurd (omega arith)
rest-each xs (suc n) k h = go (among n xs) (rest-each xs n) k h
  where
    go : (b : Bool) → ((k : ℕ) → k < length (rest xs n) → get_or (rest xs n) k 0 < n) → (k : ℕ) → k < length (rest xs n ++ cond b [] (n ∷ []))
        → get_or (rest xs n ++ cond b [] (n ∷ [])) k 0 < suc n
    go true ih k h = let e : rest xs n ++ [] ≡ rest xs n = append-nil (rest xs n) in
        omega (arith, ap (λ (l : List ℕ). get_or l k 0) e, ih k (omega (arith, ap length e)))
    go false ih k h = snoc-each 0 (rest xs n) n (λ k x. x < suc n) (λ k l. omega (arith, ih k l)) (omega arith) k h

-- and rise
pub rest-rising : (xs : List ℕ) (n a b : ℕ) → a < b → b < length (rest xs n) → get_or (rest xs n) a 0 < get_or (rest xs n) b 0
unfolding rest
rest-rising xs zero a b lt h = absurd (omega arith)
rest-rising xs (suc n) a b lt h = go (among n xs) h (rest-rising xs n a b lt)
  where
    go : (t : Bool) → b < length (rest xs n ++ cond t [] (n ∷ [])) → (b < length (rest xs n) → get_or (rest xs n) a 0 < get_or (rest xs n) b 0)
        → get_or (rest xs n ++ cond t [] (n ∷ [])) a 0 < get_or (rest xs n ++ cond t [] (n ∷ [])) b 0
    go true g ih = let e : rest xs n ++ [] ≡ rest xs n = append-nil (rest xs n) in rw e (ih (rw e at g))
    go false g ih = at (dec_lt b (length (rest xs n)))
      where
        at : Dec (b < length (rest xs n)) → get_or (rest xs n ++ (n ∷ [])) a 0 < get_or (rest xs n ++ (n ∷ [])) b 0
        at (yes l) = rw (get_or-append (rest xs n) (n ∷ []) 0 a (omega arith), get_or-append (rest xs n) (n ∷ []) 0 b l) (ih l)
        at (no l) =
            let last : b ≡ length (rest xs n) = omega (arith, length-append (rest xs n) (n ∷ [])) in
            omega (arith, get_or-append (rest xs n) (n ∷ []) 0 a (omega arith), get_or_at (rest xs n) n [] 0 b (sym last), rest-each xs n a (omega arith))

-- ---- how many the others are

-- a number that is not below n changes nothing
rest-beyond : (y : ℕ) (ys : List ℕ) (n : ℕ) → n ≤ y → rest (y ∷ ys) n ≡ rest ys n
unfolding rest among
rest-beyond y ys zero h = refl
rest-beyond y ys (suc k) h =
    (λ t. rest-beyond y ys k (omega arith) t ++ cond (ne_eqb k y (λ e. omega arith) t || among k ys) [] (k ∷ []))

-- and one that is below n, and is not there yet, is one less
rest-one : (y : ℕ) (ys : List ℕ) (n : ℕ) → y < n → among y ys ≡ false → suc (length (rest (y ∷ ys) n)) ≡ length (rest ys n)
unfolding rest among
rest-one y ys zero h e = absurd (omega arith)
rest-one y ys (suc k) h e = go (eq-or-lt_of_le (le_of_suc-le-suc h)) (λ l. rest-one y ys k l e)
  where
    one : (b : Bool) → List ℕ
    one b = cond b [] (k ∷ [])

    go : (y ≡ k) ⊎ (y < k) → (y < k → suc (length (rest (y ∷ ys) k)) ≡ length (rest ys k))
        → suc (length (rest (y ∷ ys) k ++ one (eqb k y || among k ys))) ≡ length (rest ys k ++ one (among k ys))
    go (inl q) ih =
        (λ t. suc (length (rest-beyond y ys k (omega arith) t ++ one (eq-eqb k y (sym q) t || among k ys))))
        ∙ omega (arith, length-append (rest ys k) [], length-append (rest ys k) (k ∷ []))
        ∙ ap (λ (b : Bool). length (rest ys k ++ one b)) (sym (ap (λ (y : ℕ). among y ys) (sym q) ∙ e))
    go (inr l) ih =
        ap (λ (b : Bool). suc (length (rest (y ∷ ys) k ++ one (b || among k ys)))) (ne_eqb k y (λ q. omega arith))
        ∙ omega (arith, ih l, length-append (rest (y ∷ ys) k) (one (among k ys)), length-append (rest ys k) (one (among k ys)))

rest-none : (n : ℕ) → length (rest [] n) ≡ n
unfolding rest among
rest-none zero = refl
rest-none (suc k) = omega (arith, length-append (rest [] k) (k ∷ []), rest-none k)

pub completed-length : (xs : List ℕ) (n : ℕ) → Distinct (length xs) n (vector xs) → length (xs ++ rest xs n) ≡ n
completed-length xs n d = length-append xs (rest xs n) ∙ go xs d
  where
    fresh : (y : ℕ) (ys : List ℕ) → Distinct (length (y ∷ ys)) n (vector (y ∷ ys)) → (b : Bool) → among y ys ≡ b → b ≡ false
    fresh y ys d true e = let s = among-place ys y e in absurd (omega (arith, d.apart 0 (suc s.0) (omega arith) (omega (arith, s.1)) (sym s.2)))
    fresh y ys d false e = refl

    later : (y : ℕ) (ys : List ℕ) → Distinct (length (y ∷ ys)) n (vector (y ∷ ys)) → Distinct (length ys) n (vector ys)
    later y ys d =
        record {
          below = λ a h. d.below (suc a) (omega arith);
          apart = λ a b h l e. omega (arith, d.apart (suc a) (suc b) (omega arith) (omega arith) e);
        }

    go : (xs : List ℕ) → Distinct (length xs) n (vector xs) → length xs + length (rest xs n) ≡ n
    go [] d = omega (arith, rest-none n)
    go (y ∷ ys) d = omega (arith, go ys (later y ys d), rest-one y ys n (d.below 0 (omega arith)) (fresh y ys d (among y ys) refl))

pub completed : (xs : List ℕ) (n : ℕ) → Distinct (length xs) n (vector xs) → Permutation n (vector (xs ++ rest xs n))
completed xs n d = listed n (xs ++ rest xs n) (completed-length xs n d) (completed-among xs n)

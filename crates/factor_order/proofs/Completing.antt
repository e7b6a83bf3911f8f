-- The loops that complete an order, one turn at a time.
use mathlib.Core.Path.{◌≡◌, refl, sym, ap, ◌∙◌}
use mathlib.Core.Bool.{Bool, true, false, cond, ◌||◌, or-true, or-false}
use mathlib.Core.List.{List, [], ◌∷◌, ◌++◌}
use Prim.Native.Nat.{ℕ, ◌+◌, ◌≤◌, ◌<◌}
use native.Mathlib.Decide.{ℕ_discrete}
use native.Mathlib.Numerals.{add-one}
use native.Mathlib.Omega.{arith}
use lib.Dec.{eqb}
use lib.ListN.{length, get_or, take, set, length-set, length-append}
use lib.Seq.{take_all, take-suc, length-take-le, get_or-take, get_or-set_same, get_or-set_other}
use borrow.Author.Tests.{eq-eqb, ne_eqb}
use Rattle.lists.specs.Filled.{zeros}
use Rattle.lists.specs.Tabulate.{tabulate}
use Rattle.lists.proofs.Filled.{zeros-at, length-zeros}
use Rattle.lists.proofs.Tabulate.{length-tabulate, tabulate-at, tabulated}
use Rattle.algebra.specs.Matrix.{Distinct, vector}
use Rattle.lists.specs.Tests.{among}
use Rattle.lists.specs.Rest.{rest}
use Rattle.algebra.proofs.Listed.{among-append}
use Rattle.algebra.proofs.Completion.{completed-length}
use Rattle.factor_order.specs.Needs.{Completable}
use Rattle.lists.specs.Stored.{Stored}
use Rattle.factor_order.specs.Completion.{marked, unmarked, AppendReady, Completed}
use Rattle.lists.proofs.Stored.{stored-none, stored-then, stored-length, stored-to-end}
use Rattle.factor_order.proofs.Rising.{rising}

-- ---- marking: the marks are those of the numbers passed

pub record Marking (xs : List ℕ) (n : ℕ) (w : List ℕ) (i : ℕ) : Type 0 where
  pub long : length w ≡ n
  pub marks : (x : ℕ) → get_or w x 0 ≡ marked (take i xs) x

-- one number more
among-snoc : (xs : List ℕ) (v x : ℕ) → among x (xs ++ (v ∷ [])) ≡ (among x xs || eqb x v)
unfolding among
among-snoc xs v x = among-append xs (v ∷ []) x ∙ ap (λ (b : Bool). among x xs || b) (or-false (eqb x v))

module _ (xs : List ℕ) (n : ℕ) where
  pub marking-starts : (w : List ℕ) → w ≡ zeros n → Marking xs n w 0
  unfolding among
  marking-starts w z = record { long = ap length z ∙ length-zeros n; marks = λ x. ap (λ (l : List ℕ). get_or l x 0) z ∙ zeros-at n x }

  pub marking-turn : (w : List ℕ) (i v : ℕ) → i < length xs → v ≡ get_or xs i 0 → v < n → Marking xs n w i → Marking xs n (set w v 1) (i + 1)
  marking-turn w i v h e b s =
      record { long = length-set w v 1 ∙ s.long; marks = λ x. at x (ℕ_discrete v x) ∙ ap (λ (l : List ℕ). marked l x) (sym more) }
    where
      more : take (i + 1) xs ≡ take i xs ++ (v ∷ [])
      more = ap (λ (k : ℕ). take k xs) (add-one i) ∙ take-suc xs i 0 h ∙ ap (λ (y : ℕ). take i xs ++ (y ∷ [])) (sym e)

      at : (x : ℕ) → Dec (v ≡ x) → get_or (set w v 1) x 0 ≡ marked (take i xs ++ (v ∷ [])) x
      at x (yes q) =
          ap (λ (k : ℕ). get_or (set w v 1) k 0) (sym q)
          ∙ get_or-set_same w v 1 0 (omega (arith, b, s.long))
          ∙ ap (λ (t : Bool). cond t 1 0) (sym (among-snoc (take i xs) v x ∙ ap (λ (t : Bool). among x (take i xs) || t) (eq-eqb x v (sym q)) ∙ or-true (among x (take i xs))))
      at x (no q) =
          get_or-set_other w v x 1 0 (λ y. q (sym y))
          ∙ s.marks x
          ∙ ap (λ (t : Bool). cond t 1 0) (sym (among-snoc (take i xs) v x ∙ ap (λ (t : Bool). among x (take i xs) || t) (ne_eqb x v (λ e. q (sym e))) ∙ or-false (among x (take i xs))))

  pub marking-ends : (w : List ℕ) (i : ℕ) → length xs ≤ i → Marking xs n w i → w ≡ tabulate n (marked xs)
  marking-ends w i h s = tabulated n (marked xs) w s.long (λ x l. s.marks x ∙ ap (λ (ys : List ℕ). marked ys x) (take_all i xs h))

-- ---- appending: the numbers passed that are not marked are written

-- a number that is among xs is not among the others
pub rest-turn : (xs : List ℕ) (x v : ℕ) → v ≡ marked xs x → rest xs (x + 1) ≡ rest xs x ++ unmarked v x
unfolding rest
rest-turn xs x v e = ap (rest xs) (add-one x) ∙ ap (λ (l : List ℕ). rest xs x ++ l) (go (among x xs) ∙ ap (λ (y : ℕ). unmarked y x) (sym e))
  where
    go : (b : Bool) → cond b [] (x ∷ []) ≡ unmarked (cond b 1 0) x
    go true = refl
    go false = refl

rest-grows : (xs : List ℕ) (a b : ℕ) → a ≤ b → length (rest xs a) ≤ length (rest xs b)
unfolding rest
rest-grows xs a b h = rising (λ k. length (rest xs k)) (λ k. omega (arith, length-append (rest xs k) (cond (among k xs) [] (k ∷ [])))) a b h

module _ (k : ℕ) (xs₀ w : List ℕ) (r : AppendReady k xs₀ w) where
  abbrev given : List ℕ
  given = take k xs₀

  pub marks-long : length w ≡ length xs₀
  marks-long = ap length r.marks ∙ length-tabulate (length xs₀) (marked given)

  pub appending-starts : Stored xs₀ xs₀ k k (rest given 0)
  unfolding rest
  appending-starts = stored-none

  module _ (xs : List ℕ) (at x : ℕ) (s : Stored xs₀ xs k at (rest given x)) where
    next : x < length w → rest given (x + 1) ≡ rest given x ++ unmarked (get_or w x 0) x
    next h = rest-turn given x (get_or w x 0) (ap (λ (l : List ℕ). get_or l x 0) r.marks ∙ tabulate-at (length xs₀) (marked given) x (omega (arith, marks-long)))

    pub appending-room : x < length w → at + length (unmarked (get_or w x 0) x) ≤ length xs
    appending-room h =
        omega (
          arith,
          s.next-is,
          stored-length s,
          ap length (next h) ∙ length-append (rest given x) (unmarked (get_or w x 0) x),
          rest-grows given (x + 1) (length xs₀) (omega (arith, marks-long)),
          r.room,
        )

    pub appending-turn : (xs' : List ℕ) (at' : ℕ) → x < length w → Stored xs xs' at at' (unmarked (get_or w x 0) x) → Stored xs₀ xs' k at' (rest given (x + 1))
    appending-turn xs' at' h d = rw (next h) (stored-then s d)

    pub appending-ends : x ≡ length w → (w' : List ℕ) → w' ≡ zeros (length w) → Completed k xs₀ xs w'
    appending-ends e w' z = record { order = stored-to-end r.room (rw (e ∙ marks-long) at s); cleared = z ∙ ap zeros marks-long }

-- the marks of distinct numbers, and as many places as there are others
pub append-ready : (k : ℕ) (xs w₀ w : List ℕ) → Completable k xs w₀ → w ≡ tabulate (length xs) (marked (take k xs)) → AppendReady k xs w
append-ready k xs w₀ w c e =
    record {
      narrow = c.narrow;
      room = omega (arith, length-append (take k xs) (rest (take k xs) (length xs)), completed-length (take k xs) (length xs) given, long);
      marks = e;
    }
  where
    long : length (take k xs) ≡ k
    long = length-take-le k xs c.inside

    cell : (a : ℕ) → a < length (take k xs) → get_or (take k xs) a 0 ≡ get_or xs a 0
    cell a h = get_or-take k xs a 0 (omega (arith, long))

    given : Distinct (length (take k xs)) (length xs) (vector (take k xs))
    given =
        record {
          below = λ a h. omega (arith, cell a h, c.distinct.below a (omega (arith, long)));
          apart = λ a b h l e. c.distinct.apart a b (omega (arith, long)) (omega (arith, long)) (sym (cell a h) ∙ e ∙ cell b l);
        }

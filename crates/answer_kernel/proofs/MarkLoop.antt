-- The loop that marks the pivot columns: the first k of the order C are marked.
use mathlib.Core.Path.{◌≡◌, refl, sym, ap, ◌∙◌}
use mathlib.Core.Bool.{Bool, true, false, ◌||◌, false≢true}
use mathlib.Core.List.{List, [], ◌∷◌, ◌++◌}
use Prim.Native.Nat.{ℕ, ◌+◌, ◌≤◌, ◌<◌}
use native.Mathlib.Decide.{ℕ_discrete}
use native.Mathlib.Numerals.{add-one}
use native.Mathlib.Omega.{arith}
use lib.Dec.{eqb}
use lib.ListN.{length, get_or, set, take, length-set}
use lib.Seq.{take-suc, get_or-set_same, get_or-set_other}
use borrow.Author.Tests.{eq-eqb, ne_eqb}
use Rattle.lists.specs.Tests.{among}
use Rattle.lists.proofs.Filled.{zeros-at}
use Rattle.algebra.proofs.Listed.{among-append}
use Rattle.answer_kernel.specs.Filling.{Marked}
use Rattle.answer_kernel.specs.Needs.{MarksReady}

-- ---- one column more

among-snoc : (xs : List ℕ) (v c : ℕ) (b : Bool) → eqb c v ≡ b → among c (xs ++ (v ∷ [])) ≡ (among c xs || b)
unfolding among
among-snoc xs v c b e = among-append xs (v ∷ []) c ∙ ap (λ (t : Bool). among c xs || (t || false)) e ∙ go b
  where
    go : (b : Bool) → (among c xs || (b || false)) ≡ (among c xs || b)
    go true = refl
    go false = refl

or-true : (a : Bool) → (a || true) ≡ true
or-true true = refl
or-true false = refl

or-false : (a : Bool) → (a || false) ≡ a
or-false true = refl
or-false false = refl

among-last : (xs : List ℕ) (v c : ℕ) → v ≡ c → among c (xs ++ (v ∷ [])) ≡ true
among-last xs v c e = among-snoc xs v c true (eq-eqb c v (sym e)) ∙ or-true (among c xs)

among-before : (xs : List ℕ) (v c : ℕ) → ¬ (v ≡ c) → among c (xs ++ (v ∷ [])) ≡ among c xs
among-before xs v c n = among-snoc xs v c false (ne_eqb c v (λ e. n (sym e))) ∙ or-false (among c xs)

module _ (xs w : List ℕ) (v : ℕ) (h : v < length w) (s : Marked xs w) where
  marked-cell : (c : ℕ) → c < length w → among c (xs ++ (v ∷ [])) ≡ true → ¬ (get_or (set w v 1) c 0 ≡ 0)
  marked-cell c b a z = elim (ℕ_discrete v c) [
    | yes e ↦ absurd (omega (arith, ap (λ (i : ℕ). get_or (set w v 1) i 0) e ∙ z, get_or-set_same w v 1 0 h))
    | no n ↦ s.pivots c b (sym (among-before xs v c n) ∙ a) (sym (get_or-set_other w v c 1 0 (λ e. n (sym e))) ∙ z)
  ]

  other-cell : (c : ℕ) → c < length w → among c (xs ++ (v ∷ [])) ≡ false → get_or (set w v 1) c 0 ≡ 0
  other-cell c b a = elim (ℕ_discrete v c) [
    | yes e ↦ absurd (false≢true (sym a ∙ among-last xs v c e))
    | no n ↦ get_or-set_other w v c 1 0 (λ e. n (sym e)) ∙ s.others c b (sym (among-before xs v c n) ∙ a)
  ]

  marked-snoc : Marked (xs ++ (v ∷ [])) (set w v 1)
  marked-snoc =
      record {
        pivots = λ c b. marked-cell c (omega (arith, length-set w v 1));
        others = λ c b. other-cell c (omega (arith, length-set w v 1));
      }

-- ---- the loop

pub record Marking (r : ℕ) (C w₀ w : List ℕ) (k : ℕ) : Type 0 where
  pub within : k ≤ r
  pub long : length w ≡ length w₀
  pub marked : Marked (take k C) w

pub marking-starts : (r : ℕ) (C w : List ℕ) → MarksReady r C w → Marking r C w w 0
unfolding among
marking-starts r C w d =
    record {
      within = omega arith;
      long = refl;
      marked = record { pivots = λ c b a. absurd (false≢true a); others = λ c b a. ap (λ (l : List ℕ). get_or l c 0) d.clear ∙ zeros-at (length w) c };
    }

module _ (r : ℕ) (C w₀ w : List ℕ) (k v : ℕ) (d : MarksReady r C w₀) (h : k < r) (e : v ≡ get_or C k 0) (s : Marking r C w₀ w k) where
  marking-column : v < length w
  marking-column = omega (arith, e, s.long, d.places k (omega (arith, d.order)))

  pub marking-turn : Marking r C w₀ (set w v 1) (k + 1)
  marking-turn =
      record {
        within = omega arith;
        long = length-set w v 1 ∙ s.long;
        marked = rw (← one_more) (marked-snoc (take k C) w v marking-column s.marked);
      }
    where
      one_more : take k C ++ (v ∷ []) ≡ take (k + 1) C
      one_more = ap (λ (x : ℕ). take k C ++ (x ∷ [])) e ∙ sym (take-suc C k 0 (omega (arith, d.order))) ∙ ap (λ (n : ℕ). take n C) (sym (add-one k))

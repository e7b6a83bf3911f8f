-- The schedule, turn by turn: the pairs in R and C, then the other rows of R.
use mathlib.Core.Path.{◌≡◌, refl, sym, ap, ◌∙◌}
use mathlib.Core.Bool.{Bool, true, false, cond}
use mathlib.Core.List.{List, [], ◌∷◌, ◌++◌, map}
use mathlib.Core.Option.{none, some}
use Prim.Native.Nat.{ℕ, zero, suc, ◌+◌, ◌≤◌, ◌<◌}
use native.Mathlib.Decide.{dec_lt}
use native.Mathlib.Omega.{arith}
use native.Mathlib.Numerals.{add-one}
use lib.Dec.{ltb}
use lib.ListN.{length, get_or, take, drop, length-append, length-map}
use lib.Seq.{length-take-le}
use borrow.Author.Tests.{lt-ltb, le-ltb}
use Rattle.algebra.specs.Matrix.{Matrix}
use Rattle.elimination.specs.Structural.{Pair}
use Rattle.elimination.specs.Pairs.{pair_rows, pair_columns}
use Rattle.elimination.specs.Pivots.{Found, Turn, pair, other, turn, turns}
use Rattle.lists.specs.Rest.{rest}
use Rattle.elimination.specs.Factoring.{schedule, row_of_turn, fits, first_over}
use Rattle.factor_turn.specs.State.{turn_of}
use Rattle.factor_turn.specs.Passing.{pairs_in, pairs_of}

-- ---- the turns that remain, from what is found so far, end as all turns end from the first

module _ (p m : ℕ) (A : Matrix) (roomL roomU : ℕ) where
  pub record Remaining (f₀ : Found) (ts : List Turn) (f : Found) (left : List Turn) : Type 0 where
    pub found : turns p m A f left ≡ turns p m A f₀ ts
    pub over : first_over p m A roomL roomU f left ≡ first_over p m A roomL roomU f₀ ts

  pub remaining-starts : (f : Found) (ts : List Turn) → Remaining f ts f ts
  remaining-starts f ts = record { found = refl; over = refl }

  module _ (f₀ : Found) (ts : List Turn) (f : Found) (left : List Turn) (g : Remaining f₀ ts f left) where
    pub remaining-turn : (t : Turn) (next : List Turn) → left ≡ t ∷ next → fits roomL roomU (turn p m A f t) ≡ true → Remaining f₀ ts (turn p m A f t) next
    unfolding turns first_over
    remaining-turn t next e z =
        record {
          found = ap (turns p m A f) (sym e) ∙ g.found;
          over = ap (λ (b : Bool). cond b (first_over p m A roomL roomU (turn p m A f t) next) (some (row_of_turn t))) (sym z) ∙ ap (first_over p m A roomL roomU f) (sym e) ∙ g.over;
        }

    pub remaining-over : (t : Turn) (next : List Turn) → left ≡ t ∷ next → fits roomL roomU (turn p m A f t) ≡ false → first_over p m A roomL roomU f₀ ts ≡ some (row_of_turn t)
    unfolding first_over
    remaining-over t next e z =
        sym g.over ∙ ap (first_over p m A roomL roomU f) e ∙ ap (λ (b : Bool). cond b (first_over p m A roomL roomU (turn p m A f t) next) (some (row_of_turn t))) z

    pub remaining-none : left ≡ [] → (turns p m A f₀ ts ≡ f) × (first_over p m A roomL roomU f₀ ts ≡ none)
    unfolding turns first_over
    remaining-none e = (sym g.found ∙ ap (turns p m A f) e, sym g.over ∙ ap (first_over p m A roomL roomU f) e)

-- ---- turn k

pub others-drop : (os : List ℕ) (k : ℕ) → k < length os → drop k (map other os) ≡ other (get_or os k 0) ∷ drop (suc k) (map other os)
others-drop [] k h = absurd (omega arith)
others-drop (x ∷ os) zero h = refl
others-drop (x ∷ os) (suc k) h = others-drop os k (omega arith)

ltb-suc : (k n : ℕ) → ltb (suc k) (suc n) ≡ ltb k n
ltb-suc k n = go (dec_lt k n)
  where
    go : Dec (k < n) → ltb (suc k) (suc n) ≡ ltb k n
    go (yes h) = lt-ltb (suc k) (suc n) (omega arith) ∙ sym (lt-ltb k n h)
    go (no h) = le-ltb (suc k) (suc n) (omega arith) ∙ sym (le-ltb k n (omega arith))

turns-drop : (ps : List Pair) (os : List ℕ) (k : ℕ) → k < length (pair_rows ps ++ os)
    → drop k (map pair ps ++ map other os) ≡ turn_of (ltb k (length ps)) (get_or (pair_rows ps ++ os) k 0) (get_or (pair_columns ps) k 0) ∷ drop (suc k) (map pair ps ++ map other os)
turns-drop [] os k h =
    others-drop os k h ∙ ap (λ (b : Bool). turn_of b (get_or os k 0) (get_or (pair_columns []) k 0) ∷ drop (suc k) (map other os)) (sym (le-ltb k 0 (omega arith)))
turns-drop (q ∷ ps) os zero h = ap (λ (b : Bool). turn_of b q.row q.column ∷ map pair ps ++ map other os) (sym (lt-ltb 0 (suc (length ps)) (omega arith)))
turns-drop (q ∷ ps) os (suc k) h =
    turns-drop ps os k (omega arith)
    ∙ ap (λ (b : Bool). turn_of b (get_or (pair_rows ps ++ os) k 0) (get_or (pair_columns ps) k 0) ∷ drop (suc k) (map pair ps ++ map other os)) (sym (ltb-suc k (length ps)))

-- ---- the pairs that the first places of two lists hold

pub pairs-rows : (is cs : List ℕ) → length is ≡ length cs → pair_rows (pairs_in is cs) ≡ is
unfolding pairs_in
pairs-rows [] cs h = refl
pairs-rows (i ∷ is) [] h = absurd (omega arith)
pairs-rows (i ∷ is) (c ∷ cs) h = ap (λ (l : List ℕ). i ∷ l) (pairs-rows is cs (omega arith))

pub pairs-columns : (is cs : List ℕ) → length is ≡ length cs → pair_columns (pairs_in is cs) ≡ cs
unfolding pairs_in
pairs-columns [] [] h = refl
pairs-columns [] (c ∷ cs) h = absurd (omega arith)
pairs-columns (i ∷ is) [] h = absurd (omega arith)
pairs-columns (i ∷ is) (c ∷ cs) h = ap (λ (l : List ℕ). c ∷ l) (pairs-columns is cs (omega arith))

pub pairs-again : (ps : List Pair) → pairs_in (pair_rows ps) (pair_columns ps) ≡ ps
unfolding pairs_in
pairs-again [] = refl
pairs-again (q ∷ ps) = ap (λ (l : List Pair). q ∷ l) (pairs-again ps)

module _ (s : ℕ) (R C : List ℕ) (hR : s ≤ length R) (hC : s ≤ length C) where
  as_many : length (take s R) ≡ length (take s C)
  as_many = length-take-le s R hR ∙ sym (length-take-le s C hC)

  pub rows_are : pair_rows (pairs_of s R C) ≡ take s R
  rows_are = pairs-rows (take s R) (take s C) as_many

  pub columns-are : pair_columns (pairs_of s R C) ≡ take s C
  columns-are = pairs-columns (take s R) (take s C) as_many

  pub pairs-many : length (pairs_of s R C) ≡ s
  pairs-many = sym (length-map (pairs_of s R C) (λ q. q.row)) ∙ ap length rows_are ∙ length-take-le s R hR

  module _ (order : R ≡ take s R ++ rest (take s R) (length R)) where
    abbrev all : List Turn
    all = schedule (length R) (pairs_of s R C)

    listed : pair_rows (pairs_of s R C) ++ rest (pair_rows (pairs_of s R C)) (length R) ≡ R
    listed = ap (λ (l : List ℕ). l ++ rest l (length R)) rows_are ∙ sym order

    pub schedule-turn : (k : ℕ) → k < length R → drop k all ≡ turn_of (ltb k s) (get_or R k 0) (get_or (take s C) k 0) ∷ drop (k + 1) all
    unfolding schedule
    schedule-turn k h =
        turns-drop (pairs_of s R C) (rest (pair_rows (pairs_of s R C)) (length R)) k (omega (arith, ap length listed))
        ∙ (λ t. turn_of (ltb k (pairs-many t)) (get_or (listed t) k 0) (get_or (columns-are t) k 0) ∷ drop (sym (add-one k) t) all)

    pub schedule-ends : (k : ℕ) → length R ≤ k → drop k all ≡ []
    unfolding schedule
    schedule-ends k h = past all k (omega (arith, schedule-long))
      where
        past : (l : List Turn) (k : ℕ) → length l ≤ k → drop k l ≡ []
        past [] zero h = refl
        past [] (suc k) h = refl
        past (x ∷ l) zero h = absurd (omega arith)
        past (x ∷ l) (suc k) h = past l k (omega arith)

        schedule-long : length all ≡ length R
        schedule-long =
            omega (
              arith,
              length-append (map pair (pairs_of s R C)) (map other (rest (pair_rows (pairs_of s R C)) (length R))),
              length-map (pairs_of s R C) pair,
              length-map (rest (pair_rows (pairs_of s R C)) (length R)) other,
              ap length listed,
              length-append (pair_rows (pairs_of s R C)) (rest (pair_rows (pairs_of s R C)) (length R)),
              length-map (pairs_of s R C) (λ q. q.row),
            )

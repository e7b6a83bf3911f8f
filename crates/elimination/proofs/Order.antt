-- The row order is the pivot rows as found, and then the other rows rising: R is completed as C is.
use mathlib.Core.Path.{◌≡◌, refl, sym, ap, ◌∙◌}
use mathlib.Core.Bool.{Bool, true, false, cond, ◌||◌}
use mathlib.Core.List.{List, [], ◌∷◌, ◌++◌, map, append-nil, append_assoc}
use Prim.Native.Nat.{ℕ, zero, suc, ◌≤◌, ◌<◌}
use native.Mathlib.Omega.{arith}
use lib.Dec.{eqb}
use borrow.Author.Tests.{eq-eqb, ne_eqb}
use Rattle.algebra.specs.Matrix.{Vector, Matrix}
use Rattle.elimination.specs.Structural.{Pair}
use Rattle.elimination.specs.Pairs.{pair_rows}
use Rattle.elimination.specs.Pivots.{Pivot, Found, rank_of, reduced_by, multiples_by, with_pivot, with_dependent, pair, other, turn, turns}
use Rattle.lists.specs.Tests.{among}
use Rattle.lists.specs.Rest.{rest}
use Rattle.elimination.specs.Factoring.{schedule, nothing, rows_of}
use Rattle.algebra.proofs.Listed.{map-append, among-append}
use Rattle.elimination.proofs.Turns.{other-either}
use Rattle.elimination.proofs.RowsFound.{pivot_rows, dependent_rows}
use Rattle.elimination.proofs.Schedule.{turns-append}

rest-same : (xs ys : List ℕ) (k : ℕ) → ((x : ℕ) → x < k → among x xs ≡ among x ys) → rest xs k ≡ rest ys k
unfolding rest
rest-same xs ys zero h = refl
rest-same xs ys (suc k) h = λ t. rest-same xs ys k (λ x l. h x (omega arith)) t ++ cond (h k (omega arith) t) [] (k ∷ [])

-- one number more
among-snoc : (xs : List ℕ) (y x : ℕ) → among x (xs ++ (y ∷ [])) ≡ (among x xs || (eqb x y || false))
unfolding among
among-snoc xs y x = among-append xs (y ∷ []) x

or-none : (a b : Bool) → b ≡ false → (a || (b || false)) ≡ a
or-none true b e = refl
or-none false b e = ap (λ (c : Bool). c || false) e

or-one : (a b : Bool) → b ≡ true → (a || (b || false)) ≡ true
or-one true b e = refl
or-one false b e = ap (λ (c : Bool). c || false) e

-- the rows below k have been taken, but for those of the pairs ps: the dependent ones are the ones that are no pivot rows, rising
record Ordered (ps : List ℕ) (k : ℕ) (f : Found) : Type 0 where
  dependents : dependent_rows f ≡ rest (pivot_rows f) k
  others : (x : ℕ) → k ≤ x → among x (pivot_rows f) ≡ among x ps

module _ (ps : List ℕ) (k : ℕ) (f : Found) (o : Ordered ps k f) where
  -- row k is a row of the pairs
  ordered-pair : among k ps ≡ true → Ordered ps (suc k) f
  unfolding rest
  ordered-pair e =
      record {
        dependents = o.dependents ∙ sym (ap (λ (b : Bool). rest (pivot_rows f) k ++ cond b [] (k ∷ [])) (o.others k (omega arith) ∙ e) ∙ append-nil (rest (pivot_rows f) k));
        others = λ x h. o.others x (omega arith);
      }

  ordered-dependent : among k ps ≡ false → (ls : List ℕ) → Ordered ps (suc k) (with_dependent f k ls)
  unfolding rest with_dependent
  ordered-dependent e ls =
      record {
        dependents =
            map-append (λ d. d.row) f.dependents (record { row = k; lower = ls } ∷ [])
            ∙ ap (λ (l : List ℕ). l ++ (k ∷ [])) o.dependents
            ∙ sym (ap (λ (b : Bool). rest (pivot_rows f) k ++ cond b [] (k ∷ [])) (o.others k (omega arith) ∙ e));
        others = λ x h. o.others x (omega arith);
      }

  ordered-pivot : (p m c : ℕ) (ls : List ℕ) (w : Vector) → Ordered ps (suc k) (with_pivot p m f k c ls w)
  unfolding rest with_pivot
  ordered-pivot p m c ls w =
      record {
        dependents =
            o.dependents
            ∙ rest-same (pivot_rows f) (pivot_rows f ++ (k ∷ [])) k (λ x h. sym (among-snoc (pivot_rows f) k x ∙ or-none (among x (pivot_rows f)) (eqb x k) (ne_eqb x k (λ q. omega arith))))
            ∙ sym (append-nil (rest (pivot_rows f ++ (k ∷ [])) k))
            ∙ sym (ap (λ (b : Bool). rest (pivot_rows f ++ (k ∷ [])) k ++ cond b [] (k ∷ [])) (among-snoc (pivot_rows f) k k ∙ or-one (among k (pivot_rows f)) (eqb k k) (eq-eqb k k refl)))
            ∙ ap (λ (l : List ℕ). rest l (suc k)) (sym more);
        others = λ x h.
            ap (λ (l : List ℕ). among x l) more
            ∙ among-snoc (pivot_rows f) k x
            ∙ or-none (among x (pivot_rows f)) (eqb x k) (ne_eqb x k (λ q. omega arith))
            ∙ o.others x (omega arith);
      }
    where
      more : pivot_rows (with_pivot p m f k c ls w) ≡ pivot_rows f ++ (k ∷ [])
      more = map-append (λ q. q.row) f.pivots _

-- ---- the whole schedule

module _ (p m : ℕ) (A : Matrix) where
  turn-ordered : (ps : List ℕ) (k : ℕ) (f : Found) → Ordered ps k f → among k ps ≡ false → Ordered ps (suc k) (turn p m A f (other k))
  turn-ordered ps k f o e =
      other-either p m A f k (Ordered ps (suc k)) (ordered-dependent ps k f o e (multiples_by p f (A k)))
      (λ c. ordered-pivot ps k f o p m c (multiples_by p f (A k)) (reduced_by p f (rank_of f) (A k)))

  others-ordered : (ps : List ℕ) (k : ℕ) (f : Found) → Ordered ps 0 f → Ordered ps k (turns p m A f (map other (rest ps k)))
  unfolding rest turns
  others-ordered ps zero f o = o
  others-ordered ps (suc k) f o = go (among k ps) refl (others-ordered ps k f o)
    where
      before : Found
      before = turns p m A f (map other (rest ps k))

      go : (b : Bool) → among k ps ≡ b → Ordered ps k before → Ordered ps (suc k) (turns p m A f (map other (rest ps k ++ cond b [] (k ∷ []))))
      go true e ih = rw (append-nil (rest ps k)) (ordered-pair ps k before ih e)
      go false e ih = rw (map-append other (rest ps k) (k ∷ []), turns-append p m A f (map other (rest ps k)) (other k ∷ [])) (turn-ordered ps k before ih e)

  -- the pairs are the first pivots, and no row is dependent yet
  pairs_first : (f : Found) (qs : List Pair)
      → (pivot_rows (turns p m A f (map pair qs)) ≡ pivot_rows f ++ pair_rows qs) × (dependent_rows (turns p m A f (map pair qs)) ≡ dependent_rows f)
  unfolding turns turn with_pivot
  pairs_first f [] = (sym (append-nil (pivot_rows f)), refl)
  pairs_first f (q ∷ qs) =
      let ih = pairs_first (turn p m A f (pair q)) qs in
      (ih.0 ∙ ap (λ (l : List ℕ). l ++ pair_rows qs) (map-append {A = Pivot} (λ x. x.row) f.pivots _) ∙ append_assoc (pivot_rows f) (q.row ∷ []) (pair_rows qs), ih.1)

  -- R is the pivot rows, and then the other rows rising
  pub rows-rising : (n : ℕ) (qs : List Pair) → rows_of (turns p m A nothing (schedule n qs)) ≡ pivot_rows (turns p m A nothing (schedule n qs)) ++ rest (pivot_rows (turns p m A nothing (schedule n qs))) n
  unfolding schedule rows_of rest
  rows-rising n qs =
      rw (turns-append p m A nothing (map pair qs) (map other (rest (pair_rows qs) n)))
      (ap (λ (l : List ℕ). pivot_rows end ++ l) (others-ordered (pair_rows qs) n start (record { dependents = first.1; others = λ x h. ap (λ (l : List ℕ). among x l) first.0 })).dependents)
    where
      start : Found
      start = turns p m A nothing (map pair qs)

      first : (pivot_rows start ≡ pair_rows qs) × (dependent_rows start ≡ [])
      first = pairs_first nothing qs

      end : Found
      end = turns p m A start (map other (rest (pair_rows qs) n))

-- The rows found: each turn adds its row, so the whole schedule finds each row of the matrix once.
use mathlib.Core.Path.{◌≡◌, refl, sym, ap, ap₂, ◌∙◌, subst}
use mathlib.Core.Bool.{Bool, true, false, ◌||◌}
use mathlib.Core.List.{List, [], ◌∷◌, ◌++◌, map, map-map}
use Prim.Native.Nat.{ℕ, suc, ◌+◌}
use native.Mathlib.Omega.{arith}
use lib.Dec.{eqb}
use lib.ListN.{length, length-append, length-map}
use Rattle.lists.specs.Filled.{zeros}
use Rattle.algebra.specs.Matrix.{Vector, Matrix, Distinct, Permutation, vector}
use Rattle.elimination.specs.Structural.{Pair}
use Rattle.elimination.specs.Pairs.{pair_rows, Pairs}
use Rattle.elimination.specs.Pivots.{Pivot, Dependent, Found, rank_of, reduced_by, multiples_by, with_pivot, with_dependent, Turn, pair, other, turn, turns}
use Rattle.lists.specs.Tests.{among}
use Rattle.lists.specs.Rest.{rest}
use Rattle.elimination.specs.Factoring.{schedule, nothing, rows_of, row_of_turn}
use Rattle.algebra.proofs.Listed.{snoc-length, map-append, among-append, listed}
use Rattle.elimination.proofs.Turns.{other-either}
use Rattle.algebra.proofs.Completion.{completed-among, completed-length}

-- ---- the rows found

abbrev pub pivot_rows : Found → List ℕ
pivot_rows f = map (λ q. q.row) f.pivots

abbrev pub dependent_rows : Found → List ℕ
dependent_rows f = map (λ d. d.row) f.dependents

-- f' has the rows of f, and row i
record OneMore (f f' : Found) (i : ℕ) : Type 0 where
  long : length (rows_of f') ≡ suc (length (rows_of f))
  has : (x : ℕ) → among x (rows_of f') ≡ (among x (rows_of f) || eqb x i)

module _ (f : Found) (i : ℕ) where
  front : (x : ℕ) → among x ((pivot_rows f ++ (i ∷ [])) ++ dependent_rows f) ≡ (among x (pivot_rows f ++ dependent_rows f) || eqb x i)
  unfolding among
  front x =
      among-append (pivot_rows f ++ (i ∷ [])) (dependent_rows f) x
      ∙ ap (λ (b : Bool). b || among x (dependent_rows f)) (among-append (pivot_rows f) (i ∷ []) x)
      ∙ go (among x (pivot_rows f)) (among x (dependent_rows f)) (eqb x i)
      ∙ ap (λ (b : Bool). b || eqb x i) (sym (among-append (pivot_rows f) (dependent_rows f) x))
    where
      go : (a b c : Bool) → ((a || (c || false)) || b) ≡ ((a || b) || c)
      go true b c = refl
      go false true true = refl
      go false true false = refl
      go false false true = refl
      go false false false = refl

  back : (x : ℕ) → among x (pivot_rows f ++ (dependent_rows f ++ (i ∷ []))) ≡ (among x (pivot_rows f ++ dependent_rows f) || eqb x i)
  unfolding among
  back x =
      among-append (pivot_rows f) (dependent_rows f ++ (i ∷ [])) x
      ∙ ap (λ (b : Bool). among x (pivot_rows f) || b) (among-append (dependent_rows f) (i ∷ []) x)
      ∙ go (among x (pivot_rows f)) (among x (dependent_rows f)) (eqb x i)
      ∙ ap (λ (b : Bool). b || eqb x i) (sym (among-append (pivot_rows f) (dependent_rows f) x))
    where
      go : (a b c : Bool) → (a || (b || (c || false))) ≡ ((a || b) || c)
      go true b c = refl
      go false true c = refl
      go false false true = refl
      go false false false = refl

  pivot-row : (p m c : ℕ) (ls : List ℕ) (w : Vector) → OneMore f (with_pivot p m f i c ls w) i
  unfolding with_pivot rows_of
  pivot-row p m c ls w =
      record {
        long = rw (map-append {A = Pivot} (λ q. q.row)) (omega (arith, length-append (pivot_rows f ++ (i ∷ [])) (dependent_rows f), snoc-length (pivot_rows f) i, length-append (pivot_rows f) (dependent_rows f)));
        has = λ x. rw (map-append {A = Pivot} (λ q. q.row)) (front x);
      }

  dependent-row : (ls : List ℕ) → OneMore f (with_dependent f i ls) i
  unfolding with_dependent rows_of
  dependent-row ls =
      record {
        long = rw (map-append {A = Dependent} (λ d. d.row)) (omega (arith, length-append (pivot_rows f) (dependent_rows f ++ (i ∷ [])), snoc-length (dependent_rows f) i, length-append (pivot_rows f) (dependent_rows f)));
        has = λ x. rw (map-append {A = Dependent} (λ d. d.row)) (back x);
      }

module _ (p m : ℕ) (A : Matrix) where
  turn-row : (f : Found) (t : Turn) → OneMore f (turn p m A f t) (row_of_turn t)
  unfolding turn
  turn-row f (pair q) = pivot-row f q.row p m q.column (zeros (rank_of f)) (A q.row)
  turn-row f (other i) =
      other-either p m A f i (λ f'. OneMore f f' i) (dependent-row f i (multiples_by p f (A i)))
      (λ c. pivot-row f i p m c (multiples_by p f (A i)) (reduced_by p f (rank_of f) (A i)))

  pub turns-length : (f : Found) (ts : List Turn) → length (rows_of (turns p m A f ts)) ≡ length (rows_of f) + length ts
  unfolding turns
  turns-length f [] = omega arith
  turns-length f (t ∷ ts) = omega (arith, turns-length (turn p m A f t) ts, (turn-row f t).long)

  pub turns-among : (f : Found) (ts : List Turn) (x : ℕ) → among x (rows_of (turns p m A f ts)) ≡ (among x (rows_of f) || among x (map row_of_turn ts))
  unfolding turns among
  turns-among f [] x = go (among x (rows_of f))
    where
      go : (b : Bool) → b ≡ (b || false)
      go true = refl
      go false = refl
  turns-among f (t ∷ ts) x =
      turns-among (turn p m A f t) ts x
      ∙ ap (λ (b : Bool). b || among x (map row_of_turn ts)) ((turn-row f t).has x)
      ∙ go (among x (rows_of f)) (eqb x (row_of_turn t)) (among x (map row_of_turn ts))
    where
      go : (a b c : Bool) → ((a || b) || c) ≡ (a || (b || c))
      go true b c = refl
      go false b c = refl

pub schedule-rows : (n : ℕ) (ps : List Pair) → map row_of_turn (schedule n ps) ≡ pair_rows ps ++ rest (pair_rows ps) n
unfolding schedule
schedule-rows n ps = map-append row_of_turn (map pair ps) (map other (rest (pair_rows ps) n)) ∙ ap₂ (λ (a b : List ℕ). a ++ b) (map-map row_of_turn pair ps) (others (rest (pair_rows ps) n))
  where
    others : (xs : List ℕ) → map row_of_turn (map other xs) ≡ xs
    others [] = refl
    others (x ∷ xs) = ap (λ (l : List ℕ). x ∷ l) (others xs)

-- ---- the whole schedule

module _ (p n m : ℕ) (A : Matrix) (ps : List Pair) (pairs : Pairs n m A ps) where
  abbrev end : Found
  end = turns p m A nothing (schedule n ps)

  whole : length (map row_of_turn (schedule n ps)) ≡ n
  whole =
      ap length (schedule-rows n ps)
      ∙ completed-length (pair_rows ps) n (subst (λ (k : ℕ). Distinct k n (vector (pair_rows ps))) (sym (length-map ps (λ q. q.row))) pairs.rows)

  pub rows-length : length (rows_of end) ≡ n
  unfolding rows_of
  rows-length = turns-length p m A nothing (schedule n ps) ∙ omega (arith, whole, length-map (schedule n ps) row_of_turn)

  pub rows-permutation : Permutation n (vector (rows_of end))
  unfolding rows_of among
  rows-permutation =
      listed n (rows_of end) rows-length
      (λ x h. turns-among p m A nothing (schedule n ps) x ∙ ap (λ (l : List ℕ). among x l) (schedule-rows n ps) ∙ completed-among (pair_rows ps) n x h)

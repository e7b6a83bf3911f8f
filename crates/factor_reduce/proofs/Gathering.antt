-- The loop over the rows of U: after k rows the first k multiples are stored, and every cell stands for what remains.
use mathlib.Core.Path.{◌≡◌, refl, sym, ap, ◌∙◌}
use mathlib.Core.Bool.{Bool, true, false, not, true≢false}
use mathlib.Core.List.{List, [], ◌∷◌, ◌++◌}
use Prim.Native.Nat.{ℕ, zero, suc, ◌+◌, ◌%◌, ◌≤◌, ◌<◌}
use native.Mathlib.Nat.{zero-mod}
use native.Mathlib.Numerals.{add-one}
use native.Mathlib.Omega.{arith}
use lib.ListN.{length, get_or, set}
use borrow.Author.Tests.{leb-true, leb-false, le-leb, lt-leb}
use Rattle.lists.specs.Tabulate.{tabulate}
use Rattle.lists.proofs.Tabulate.{length-tabulate}
use Rattle.algebra.specs.Matrix.{Vector, Matrix, vector}
use Rattle.algebra.specs.Reduction.{reduced, multiples}
use Rattle.sparse.specs.Matrix.{Compressed, matrix}
use Rattle.sparse.specs.Dense.{nonzeros}
use Rattle.sparse.specs.Storing.{DenseStored}
use Rattle.sparse.proofs.Nonzeros.{count-append, nonzeros-zero, nonzeros-one, stored-none, stored-zero, stored_one, stored-then}
use Rattle.factor_reduce.specs.InPlace.{RemainderRow, MultipleTaken}
use Rattle.factor_reduce.specs.Gathering.{EntryGathered, MultiplesGathered}
use Rattle.factor_reduce.specs.Needs.{GatherReady}
use Rattle.factor_reduce.proofs.Multiples.{nothing-taken, reduced-next}

-- ---- the multiples as a dense row

tabulate-last : (k : ℕ) (f : ℕ → ℕ) → tabulate (suc k) f ≡ tabulate k f ++ (f k ∷ [])
unfolding tabulate
tabulate-last zero f = refl
tabulate-last (suc k) f = ap (λ (l : List ℕ). f 0 ∷ l) (tabulate-last k (λ i. f (suc i)))

-- a part has no more nonzeros than the whole
part_count : (k r : ℕ) (f : ℕ → ℕ) → k ≤ r → length (nonzeros (tabulate k f)) ≤ length (nonzeros (tabulate r f))
unfolding tabulate nonzeros
part_count zero r f h = omega arith
part_count (suc k) zero f h = absurd (omega arith)
part_count (suc k) (suc r) f h =
    omega (
      arith,
      count-append (f 0 ∷ []) (tabulate k (λ i. f (suc i))),
      count-append (f 0 ∷ []) (tabulate r (λ i. f (suc i))),
      part_count k r (λ i. f (suc i)) (omega arith),
    )

module _ (p k : ℕ) (C : Vector) (U : Matrix) (y : Vector) where
  multiples-length : length (multiples p k C U y) ≡ k
  unfolding multiples
  multiples-length = length-tabulate k (λ l. reduced p C U l y (C l))

  multiples-last : multiples p (suc k) C U y ≡ multiples p k C U y ++ (reduced p C U k y (C k) ∷ [])
  unfolding multiples
  multiples-last = tabulate-last k (λ l. reduced p C U l y (C l))

  multiples-count : length (nonzeros (multiples p (suc k) C U y)) ≡ length (nonzeros (multiples p k C U y)) + length (nonzeros (reduced p C U k y (C k) ∷ []))
  multiples-count = ap (λ (l : List ℕ). length (nonzeros l)) multiples-last ∙ count-append (multiples p k C U y) (reduced p C U k y (C k) ∷ [])

  multiples-part : (r : ℕ) → k ≤ r → length (nonzeros (multiples p k C U y)) ≤ length (nonzeros (multiples p r C U y))
  unfolding multiples
  multiples-part r h = part_count k r (λ l. reduced p C U l y (C l)) h

-- ---- one entry, at place `at`

module _ (p k c : ℕ) (u : Vector) (x at limit : ℕ) (w₀ lc lv w : List ℕ) (t : MultipleTaken p c u w₀ w x) where
  -- a multiple that is 0 needs no place
  pub entry-none : at ≤ limit → x ≡ 0 → EntryGathered p k c u (get_or w₀ c 0 % p) at limit w₀ lc lv w lc lv false at
  unfolding nonzeros
  entry-none room e =
      rw (sym t.multiple.value) (record {
        taken = t;
        fit = le-leb (at + length (nonzeros (x ∷ []))) limit (omega (arith, nonzeros-zero x [] e));
        stored = λ o. stored-zero k at x lc lv e;
      })

  module _ (some : x ≡ 0 → ⊥) where
    one : length (nonzeros (x ∷ [])) ≡ 1
    unfolding nonzeros
    one = nonzeros-one x [] some

    pub entry-over : at ≡ limit → (lc' lv' : List ℕ) (next : ℕ) → EntryGathered p k c u (get_or w₀ c 0 % p) at limit w₀ lc lv w lc' lv' true next
    entry-over full lc' lv' next =
        rw (sym t.multiple.value) (record {
          taken = t;
          fit = lt-leb (at + length (nonzeros (x ∷ []))) limit (omega (arith, one));
          stored = λ o. absurd (true≢false o);
        })

    pub entry-stored : at < limit → EntryGathered p k c u (get_or w₀ c 0 % p) at limit w₀ lc lv w (set lc at k) (set lv at x) false (at + 1)
    entry-stored room =
        rw (sym t.multiple.value) (record {
          taken = t;
          fit = le-leb (at + length (nonzeros (x ∷ []))) limit (omega (arith, one));
          stored = λ o. stored_one k at x lc lv some;
        })

-- ---- where the loop stands: k rows were taken away

pub record Gathering (p : ℕ) (C : List ℕ) (U : Compressed) (l limit : ℕ) (w₀ lc₀ lv₀ w lc lv : List ℕ) (next k : ℕ) : Type 0 where
  pub inside : k ≤ length C
  pub row : RemainderRow p (length w₀) k (vector C) (matrix U) (λ j. get_or w₀ j 0 % p) w
  pub stored : DenseStored 0 l (multiples p k (vector C) (matrix U) (λ j. get_or w₀ j 0 % p)) lc₀ lv₀ lc lv next
  pub room : next ≤ limit

module _ (p : ℕ) (C : List ℕ) (U : Compressed) (l limit : ℕ) (w₀ lc₀ lv₀ : List ℕ) (ready : GatherReady p C U l limit w₀ lc₀ lv₀) where
  abbrev y : Vector
  y = λ j. get_or w₀ j 0 % p

  pub gathering-starts : Gathering p C U l limit w₀ lc₀ lv₀ w₀ lc₀ lv₀ l 0
  unfolding reduced multiples tabulate
  gathering-starts =
      record {
        inside = omega arith;
        row = record { long = refl; below = ready.upper.below; cells = λ j h. refl };
        stored = stored-none 0 l lc₀ lv₀;
        room = ready.lists.place;
      }

  module _ (w lc lv : List ℕ) (next k : ℕ) (s : Gathering p C U l limit w₀ lc₀ lv₀ w lc lv next k) where
    pub gathering-ends : length C ≤ k → MultiplesGathered p (length w₀) C U y l limit lc₀ lv₀ lc lv w false next
    gathering-ends h =
        record {
          fit = le-leb (l + length (nonzeros (multiples p (length C) (vector C) (matrix U) y))) limit (omega (arith, s.room, stored.place));
          stored = λ o. stored;
          remainder = λ o. rw all s.row;
        }
      where
        all : length C ≡ k
        all = omega (arith, s.inside)

        stored : DenseStored 0 l (multiples p (length C) (vector C) (matrix U) y) lc₀ lv₀ lc lv next
        stored = rw all s.stored

    module _ (h : k < length C) (c : ℕ) (ec : c ≡ vector C k) where
      -- the cell stands for the multiple
      value : get_or w c 0 % p ≡ reduced p (vector C) (matrix U) k y (vector C k)
      value = ap (λ (j : ℕ). get_or w j 0 % p) ec ∙ s.row.cells (vector C k) (ready.upper.columns.below k h)

      next-turn : (w' lc' lv' : List ℕ) (next' : ℕ) → MultipleTaken p c (matrix U k) w w' (get_or w c 0 % p) → DenseStored k next (get_or w c 0 % p ∷ []) lc lv lc' lv' next' → next' ≤ limit
          → Gathering p C U l limit w₀ lc₀ lv₀ w' lc' lv' next' (k + 1)
      next-turn w' lc' lv' next' t d g =
          record {
            inside = omega arith;
            row = rw (add-one k) (record {
              long = t.long ∙ s.row.long;
              below = t.below;
              cells = λ j b. reduced-next p k (vector C) (matrix U) y j (get_or w' j 0) (get_or w j 0) (get_or w c 0 % p) t.multiple.below value (s.row.cells j b) (t.cells j (omega (arith, s.row.long)));
            });
            stored = rw (add-one k, multiples-last p k (vector C) (matrix U) y)
                (stored-then 0 l (multiples p k (vector C) (matrix U) y) (reduced p (vector C) (matrix U) k y (vector C k) ∷ []) lc₀ lv₀ lc lv lc' lv' next next' s.stored (rw (passed, sym value) d));
            room = g;
          }
        where
          passed : 0 + length (multiples p k (vector C) (matrix U) y) ≡ k
          passed = omega (arith, multiples-length p k (vector C) (matrix U) y)

      pub gathering-zero : get_or w c 0 ≡ 0 → Gathering p C U l limit w₀ lc₀ lv₀ w lc lv next (k + 1)
      gathering-zero e =
          next-turn w lc lv next (nothing-taken p c (matrix U k) w ready.upper.positive s.row.below e)
          (stored-zero k next (get_or w c 0 % p) lc lv (ap (λ (z : ℕ). z % p) e ∙ zero-mod p)) s.room

      module _ (w' lc' lv' : List ℕ) (over : Bool) (next' : ℕ) (d : EntryGathered p k c (matrix U k) (get_or w c 0 % p) next limit w lc lv w' lc' lv' over next') where
        pub gathering-turn : over ≡ false → Gathering p C U l limit w₀ lc₀ lv₀ w' lc' lv' next' (k + 1)
        gathering-turn o =
            next-turn w' lc' lv' next' d.taken (d.stored o)
            (omega (arith, (d.stored o).place, leb-true (next + length (nonzeros (get_or w c 0 % p ∷ []))) limit (d.fit ∙ ap not o)))

        -- the room is used up, and one multiple more is not 0: all together do not fit
        pub gathering-over : over ≡ true → (lc'' lv'' w'' : List ℕ) (next'' : ℕ) → MultiplesGathered p (length w₀) C U y l limit lc₀ lv₀ lc'' lv'' w'' over next''
        gathering-over o lc'' lv'' w'' next'' =
            record {
              fit = lt-leb (l + length (nonzeros (multiples p (length C) (vector C) (matrix U) y))) limit more ∙ sym (ap not o);
              stored = λ e. absurd (true≢false (sym o ∙ e));
              remainder = λ e. absurd (true≢false (sym o ∙ e));
            }
          where
            full : limit < next + length (nonzeros (reduced p (vector C) (matrix U) k y (vector C k) ∷ []))
            full = rw (sym value) (leb-false (next + length (nonzeros (get_or w c 0 % p ∷ []))) limit (d.fit ∙ ap not o))

            more : limit < l + length (nonzeros (multiples p (length C) (vector C) (matrix U) y))
            more =
                omega (arith, full, s.stored.place, multiples-count p k (vector C) (matrix U) y, multiples-part p (suc k) (vector C) (matrix U) y (length C) (omega arith))

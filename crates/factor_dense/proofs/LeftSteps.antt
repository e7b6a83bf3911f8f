-- The cells of a block row stored one after another, each under its own column.
use mathlib.Core.Path.{◌≡◌, refl, sym, ap, ◌∙◌}
use mathlib.Core.Bool.{Bool, true, false, not, true≢false}
use mathlib.Core.List.{List, [], ◌∷◌, ◌++◌}
use Prim.Native.Nat.{ℕ, zero, suc, ◌+◌, ◌≤◌, ◌<◌}
use native.Mathlib.Omega.{arith}
use lib.ListN.{length, get_or, take}
use lib.Seq.{sets, length-sets, length-take-le, take-suc}
use borrow.Author.Tests.{leb-true, leb-false, lt-leb}
use Rattle.lists.proofs.Steps.{sets-append}
use Rattle.sparse.specs.Dense.{nonzeros, columns_from}
use Rattle.sparse.proofs.Nonzeros.{count-append, nonzeros-append}
use Rattle.factor_dense.specs.Block.{where_nonzero}
use Rattle.factor_dense.specs.Storing.{EntryStored, ChosenStored, LeftStored}
use Rattle.factor_dense.specs.Needs.{PlaceReady, LeftReady}
use Rattle.factor_dense.proofs.StoringSteps.{count-take}

-- ---- in parts

chosen-append : (cs vs cs' vs' : List ℕ) → length cs ≡ length vs → where_nonzero (cs ++ cs') (vs ++ vs') ≡ where_nonzero cs vs ++ where_nonzero cs' vs'
unfolding where_nonzero
chosen-append [] [] cs' vs' e = refl
chosen-append [] (v ∷ vs) cs' vs' e = absurd (omega arith)
chosen-append (c ∷ cs) [] cs' vs' e = absurd (omega arith)
chosen-append (c ∷ cs) (zero ∷ vs) cs' vs' e = chosen-append cs vs cs' vs' (omega arith)
chosen-append (c ∷ cs) (suc v ∷ vs) cs' vs' e = ap (λ (l : List ℕ). c ∷ l) (chosen-append cs vs cs' vs' (omega arith))

length-chosen : (cs vs : List ℕ) → length cs ≡ length vs → length (where_nonzero cs vs) ≡ length (nonzeros vs)
unfolding where_nonzero nonzeros
length-chosen [] [] e = refl
length-chosen [] (v ∷ vs) e = absurd (omega arith)
length-chosen (c ∷ cs) [] e = absurd (omega arith)
length-chosen (c ∷ cs) (zero ∷ vs) e = length-chosen cs vs (omega arith)
length-chosen (c ∷ cs) (suc v ∷ vs) e = ap suc (length-chosen cs vs (omega arith))

pub chosen_none : (at : ℕ) (lc lv : List ℕ) → ChosenStored at [] [] lc lv lc lv at
unfolding where_nonzero nonzeros
chosen_none at lc lv = record { place = omega arith; columns = refl; values = refl }

chosen-one : (k x : ℕ) → columns_from k (x ∷ []) ≡ where_nonzero (k ∷ []) (x ∷ [])
unfolding where_nonzero columns_from
chosen-one k zero = refl
chosen-one k (suc x) = refl

chosen-then : (at : ℕ) (cs vs cs' vs' lc₀ lv₀ lc₁ lv₁ lc₂ lv₂ : List ℕ) (next₁ next₂ : ℕ) → length cs ≡ length vs → ChosenStored at cs vs lc₀ lv₀ lc₁ lv₁ next₁
    → ChosenStored next₁ cs' vs' lc₁ lv₁ lc₂ lv₂ next₂ → ChosenStored at (cs ++ cs') (vs ++ vs') lc₀ lv₀ lc₂ lv₂ next₂
chosen-then at cs vs cs' vs' lc₀ lv₀ lc₁ lv₁ lc₂ lv₂ next₁ next₂ e a b =
    record {
      place = omega (arith, a.place, b.place, count-append vs vs');
      columns =
          b.columns
          ∙ (λ i. sets (a.columns i) ((a.place ∙ ap (λ (n : ℕ). at + n) (sym (length-chosen cs vs e))) i) (where_nonzero cs' vs'))
          ∙ sym (ap (sets lc₀ at) (chosen-append cs vs cs' vs' e) ∙ sets-append lc₀ at (where_nonzero cs vs) (where_nonzero cs' vs'));
      values =
          b.values
          ∙ (λ i. sets (a.values i) (a.place i) (nonzeros vs'))
          ∙ sym (ap (sets lv₀ at) (nonzeros-append vs vs') ∙ sets-append lv₀ at (nonzeros vs) (nonzeros vs'));
    }

-- ---- the loop

pub record LeftSoFar (width l limit : ℕ) (js row lc₀ lv₀ lc lv : List ℕ) (next t : ℕ) : Type 0 where
  pub inside : t ≤ width
  pub room : next ≤ limit
  pub stored : ChosenStored l (take t js) (take t row) lc₀ lv₀ lc lv next

module _ (width l limit : ℕ) (js row lc₀ lv₀ : List ℕ) (h : LeftReady width l limit js lc₀ lv₀) (wide : length row ≡ 32) (wide-js : length js ≡ 32) where
  pub left-starts : LeftSoFar width l limit js row lc₀ lv₀ lc₀ lv₀ l 0
  left-starts = record { inside = omega arith; room = h.lists.place; stored = chosen_none l lc₀ lv₀ }

  module _ (lc lv : List ℕ) (next t : ℕ) (g : LeftSoFar width l limit js row lc₀ lv₀ lc lv next t) where
    pub left-columns : length lc ≡ length lc₀
    left-columns = ap length g.stored.columns ∙ length-sets lc₀ l (where_nonzero (take t js) (take t row))

    pub left-values : length lv ≡ length lv₀
    left-values = ap length g.stored.values ∙ length-sets lv₀ l (nonzeros (take t row))

    module _ (lt : t < width) (j : ℕ) (ej : j ≡ get_or js t 0) where
      pub left-ready : PlaceReady j next limit lc lv
      left-ready =
          record {
            narrow = omega (arith, ej, h.narrow t lt);
            lists = record {
              place = g.room;
              room = omega (arith, h.lists.room, left-columns);
              paired = left-columns ∙ h.lists.paired ∙ sym left-values;
            };
          }

      next-number : (t : ℕ) → t + 1 ≡ suc t
      next-number t = omega arith

      last : take (t + 1) row ≡ take t row ++ (get_or row t 0 ∷ [])
      last = ap (λ (n : ℕ). take n row) (next-number t) ∙ take-suc row t 0 (omega (arith, h.rows))

      last-js : take (t + 1) js ≡ take t js ++ (j ∷ [])
      last-js = ap (λ (n : ℕ). take n js) (next-number t) ∙ take-suc js t 0 (omega (arith, h.rows)) ∙ ap (λ (x : ℕ). take t js ++ (x ∷ [])) (sym ej)

      module _ (lc' lv' : List ℕ) (over : Bool) (next' : ℕ) (d : EntryStored j (get_or row t 0) next limit lc lv lc' lv' over next') where
        pub left-turn : over ≡ false → LeftSoFar width l limit js row lc₀ lv₀ lc' lv' next' (t + 1)
        left-turn o =
            record {
              inside = omega arith;
              room = omega (arith, (d.stored o).place, leb-true (next + length (nonzeros (get_or row t 0 ∷ []))) limit (d.fit ∙ ap not o));
              stored = rw (last, last-js)
                  (chosen-then l (take t js) (take t row) (j ∷ []) (get_or row t 0 ∷ []) lc₀ lv₀ lc lv lc' lv' next next'
                  (length-take-le t js (omega (arith, h.rows)) ∙ sym (length-take-le t row (omega (arith, h.rows)))) g.stored one);
            }
          where
            one : ChosenStored next (j ∷ []) (get_or row t 0 ∷ []) lc lv lc' lv' next'
            one =
                record {
                  place = (d.stored o).place;
                  columns = (d.stored o).columns ∙ ap (sets lc next) (chosen-one j (get_or row t 0));
                  values = (d.stored o).values;
                }

        pub left_over : over ≡ true → (lc'' lv'' : List ℕ) (next'' : ℕ) → LeftStored l limit (take width js) (take width row) lc₀ lv₀ lc'' lv'' true next''
        left_over o lc'' lv'' next'' =
            record { fit = lt-leb (l + length (nonzeros (take width row))) limit more; stored = λ e. absurd (true≢false e) }
          where
            counted : length (nonzeros (take (t + 1) row)) ≡ length (nonzeros (take t row)) + length (nonzeros (get_or row t 0 ∷ []))
            counted = ap (λ (z : List ℕ). length (nonzeros z)) last ∙ count-append (take t row) (get_or row t 0 ∷ [])

            more : limit < l + length (nonzeros (take width row))
            more =
                omega (arith, leb-false (next + length (nonzeros (get_or row t 0 ∷ []))) limit (d.fit ∙ ap not o), g.stored.place, counted, count-take (t + 1) width row (omega arith))

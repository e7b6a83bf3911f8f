-- The multiples stored one after another, and the cells of a row scaled one after another.
use mathlib.Core.Path.{◌≡◌, ap, ◌∙◌}
use mathlib.Core.Bool.{Bool, true, false, not, true≢false}
use mathlib.Core.List.{List, [], ◌∷◌, ◌++◌}
use Prim.Native.Nat.{ℕ, zero, suc, ◌+◌, ◌*◌, ◌%◌, ◌≤◌, ◌<◌}
use native.Mathlib.Omega.{arith}
use lib.ListN.{length, get_or, take, set}
use lib.Seq.{length-take-le, take-suc}
use borrow.Author.Tests.{leb-true, leb-false, le-leb, lt-leb}
use Rattle.sparse.specs.Dense.{nonzeros}
use Rattle.sparse.specs.Storing.{DenseStored}
use Rattle.sparse.proofs.Nonzeros.{count-append, nonzeros-zero, nonzeros-one, stored-none, stored-zero, stored_one, stored-then}
use Rattle.residue.specs.Arithmetic.{Residue}
use Rattle.factor_dense.specs.Storing.{EntryStored, MultiplesStored}
use Rattle.factor_dense.specs.Needs.{StoreMultiplesReady}

-- ---- one entry

module _ (k x at limit : ℕ) (lc lv : List ℕ) where
  pub entry-none : at ≤ limit → x ≡ 0 → EntryStored k x at limit lc lv lc lv false at
  unfolding nonzeros
  entry-none room e =
      record {
        fit = le-leb (at + length (nonzeros (x ∷ []))) limit (omega (arith, nonzeros-zero x [] e));
        stored = λ o. stored-zero k at x lc lv e;
      }

  module _ (some : x ≡ 0 → ⊥) where
    one : length (nonzeros (x ∷ [])) ≡ 1
    unfolding nonzeros
    one = nonzeros-one x [] some

    pub entry-over : at ≡ limit → (lc' lv' : List ℕ) (next : ℕ) → EntryStored k x at limit lc lv lc' lv' true next
    entry-over full lc' lv' next =
        record { fit = lt-leb (at + length (nonzeros (x ∷ []))) limit (omega (arith, one)); stored = λ o. absurd (true≢false o) }

    pub entry-put : at < limit → EntryStored k x at limit lc lv (set lc at k) (set lv at x) false (at + 1)
    entry-put room =
        record { fit = le-leb (at + length (nonzeros (x ∷ []))) limit (omega (arith, one)); stored = λ o. stored_one k at x lc lv some }

-- ---- all of them

pub count-take : (t b : ℕ) (xs : List ℕ) → t ≤ b → length (nonzeros (take t xs)) ≤ length (nonzeros (take b xs))
unfolding nonzeros
count-take zero b xs h = omega arith
count-take (suc t) zero xs h = absurd (omega arith)
count-take (suc t) (suc b) [] h = omega arith
count-take (suc t) (suc b) (x ∷ xs) h =
    omega (arith, count-append (x ∷ []) (take t xs), count-append (x ∷ []) (take b xs), count-take t b xs (omega arith))

pub record StoringSoFar (s b l limit : ℕ) (xs lc₀ lv₀ lc lv : List ℕ) (next t : ℕ) : Type 0 where
  pub inside : t ≤ b
  pub room : next ≤ limit
  pub stored : DenseStored s l (take t xs) lc₀ lv₀ lc lv next

module _ (s b l limit : ℕ) (xs lc₀ lv₀ : List ℕ) (h : StoreMultiplesReady s b l limit lc₀ lv₀) (wide : length xs ≡ 32) where
  pub storing-starts : StoringSoFar s b l limit xs lc₀ lv₀ lc₀ lv₀ l 0
  storing-starts = record { inside = omega arith; room = h.lists.place; stored = stored-none s l lc₀ lv₀ }

  module _ (lc lv : List ℕ) (next t : ℕ) (g : StoringSoFar s b l limit xs lc₀ lv₀ lc lv next t) where
    module _ (lt : t < b) where
      last : take (t + 1) xs ≡ take t xs ++ (get_or xs t 0 ∷ [])
      last = ap (λ (n : ℕ). take n xs) (next-number t) ∙ take-suc xs t 0 (omega (arith, h.rows))
        where
          next-number : (t : ℕ) → t + 1 ≡ suc t
          next-number t = omega arith

      module _ (lc' lv' : List ℕ) (over : Bool) (next' : ℕ) (d : EntryStored (s + t) (get_or xs t 0) next limit lc lv lc' lv' over next') where
        pub storing-turn : over ≡ false → StoringSoFar s b l limit xs lc₀ lv₀ lc' lv' next' (t + 1)
        storing-turn o =
            record {
              inside = omega arith;
              room = omega (arith, (d.stored o).place, leb-true (next + length (nonzeros (get_or xs t 0 ∷ []))) limit (d.fit ∙ ap not o));
              stored = rw last (stored-then s l (take t xs) (get_or xs t 0 ∷ []) lc₀ lv₀ lc lv lc' lv' next next' g.stored (rw passed (d.stored o)));
            }
          where
            passed : s + length (take t xs) ≡ s + t
            passed = ap (λ (n : ℕ). s + n) (length-take-le t xs (omega (arith, h.rows)))

        pub storing-over : over ≡ true → (lc'' lv'' : List ℕ) (next'' : ℕ) → MultiplesStored s l limit (take b xs) lc₀ lv₀ lc'' lv'' true next''
        storing-over o lc'' lv'' next'' =
            record { fit = lt-leb (l + length (nonzeros (take b xs))) limit more; stored = λ e. absurd (true≢false e) }
          where
            counted : length (nonzeros (take (t + 1) xs)) ≡ length (nonzeros (take t xs)) + length (nonzeros (get_or xs t 0 ∷ []))
            counted = ap (λ (z : List ℕ). length (nonzeros z)) last ∙ count-append (take t xs) (get_or xs t 0 ∷ [])

            more : limit < l + length (nonzeros (take b xs))
            more =
                omega (arith, leb-false (next + length (nonzeros (get_or xs t 0 ∷ []))) limit (d.fit ∙ ap not o), g.stored.place, counted, count-take (t + 1) b xs (omega arith))

-- ---- a row scaled

pub record Scaling (p c : ℕ) (row out : List ℕ) (l : ℕ) : Type 0 where
  pub inside : l ≤ 32
  pub long : length out ≡ 32
  pub done : (j : ℕ) → j < l → Residue p (c * (get_or row j 0 % p) % p) (get_or out j 0)

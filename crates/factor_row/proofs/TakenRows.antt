-- A row that is reduced and taken: what is stored of it in parts is its row of L and its row of U.
use mathlib.Core.Path.{◌≡◌, refl, sym, ap, ◌∙◌, subst}
use mathlib.Core.Bool.{Bool, true, false, cond, not, ◌&&◌, true≢false}
use mathlib.Core.List.{List, [], ◌∷◌, ◌++◌}
use Prim.Native.Nat.{ℕ, zero, suc, ◌+◌, ◌-◌, ◌*◌, ◌%◌, ◌≤◌, ◌<◌}
use native.Mathlib.Nat.{mod-lt, zero-add}
use native.Mathlib.Decide.{ℕ_discrete}
use native.Mathlib.Omega.{arith}
use lib.Dec.{leb, eqb}
use borrow.Author.Tests.{leb-true, leb-false, lt-leb, eqb-false}
use lib.ListN.{length, get_or, take}
use Rattle.algebra.specs.Reduction.{multiples}
use Rattle.lists.specs.Filled.{zeros}
use Rattle.lists.specs.Tabulate.{tabulate}
use Rattle.lists.specs.Tests.{first}
use Rattle.lists.proofs.Tests.{first-here, first-ext}
use Rattle.lists.proofs.Tabulate.{length-tabulate, tabulate-ext}
use Rattle.algebra.specs.Prime.{Prime}
use Rattle.algebra.specs.Matrix.{Vector}
use Rattle.residue.specs.Inverse.{inv_mod, Invertible}
use Rattle.sparse.specs.Matrix.{Compressed, matrix}
use Rattle.sparse.specs.Dense.{nonzeros, scaled}
use Rattle.sparse.specs.Storing.{DenseStored}
use Rattle.sparse.proofs.Nonzeros.{count-append, nonzeros-one, stored-then, stored_one, stored-columns, stored-values, scaled-tabulate, count-scaled}
use Rattle.factor_reduce.specs.declared.gather.Gathered.{Gathered}
use Rattle.factor_row.specs.declared.pivot_row.Step.{Step}
use Rattle.factor_row.specs.Gathering.{Reduction, reduction_of, reduction_by, cut, StandsFor, RowGathered}
use Rattle.factor_row.specs.Entries.{entry_lists_of}
use Rattle.factor_row.specs.PivotRow.{PivotStored, PivotOutcome}
use Rattle.factor_row.specs.Taking.{next_upper_row, PivotFound, RowFound}
use Rattle.factor_row.specs.Needs.{PivotReady, OtherReady}
use Rattle.factor_row.proofs.PivotRows.{inverse-invertible}

-- ---- the first that fails a test

pub first-most : (n : ℕ) (t : ℕ → Bool) → first n t ≤ n
unfolding first
first-most zero t = omega arith
first-most (suc n) t = go (t 0) (first-most n (λ i. t (suc i)))
  where
    go : (b : Bool) → first n (λ i. t (suc i)) ≤ n → cond b (suc (first n (λ i. t (suc i)))) 0 ≤ suc n
    go true ih = omega arith
    go false ih = omega arith

-- ---- the working row times a number

pub scaled-stands : (p m c : ℕ) (w : Vector) (row : List ℕ) → StandsFor p m w row → scaled p c row ≡ tabulate m (λ j. c * w j % p)
scaled-stands p m c w row s =
    scaled-tabulate p c row
    ∙ ap (λ (n : ℕ). tabulate n (λ j. c * (get_or row j 0 % p) % p)) s.long
    ∙ tabulate-ext m (λ j. c * (get_or row j 0 % p) % p) (λ j. c * w j % p) (λ j h. ap (λ (x : ℕ). c * x % p) (s.cells j h))

-- ---- a pivot row

-- the row of L is stored but for its last entry, and w remains, which is not 0 at c
module _ (p m r at l total : ℕ) (cs : List ℕ) (w : Vector) (c : ℕ) (lc₀ lv₀ uc₀ uv₀ row lc₁ lv₁ : List ℕ) (l₁ : ℕ)
    (prime : Prime p) (long : length cs ≡ r) (inside : c < m) (here : ¬ (w c ≡ 0)) (s : StandsFor p m w row) (d : DenseStored 0 l cs lc₀ lv₀ lc₁ lv₁ l₁) where
  value : get_or row c 0 % p ≡ w c
  value = s.cells c inside

  invertible : Invertible p (w c)
  invertible =
      record { prime = prime; nonzero = positive (ℕ_discrete (w c) 0); below = subst (λ (x : ℕ). x < p) value (mod-lt (get_or row c 0) (omega (arith, prime.two))) }
    where
      positive : Dec (w c ≡ 0) → 0 < w c
      positive (yes e) = absurd (here e)
      positive (no e) = omega arith

  row-of-U : scaled p (inv_mod p (get_or row c 0 % p)) row ≡ next_upper_row p m c w
  unfolding next_upper_row
  row-of-U = ap (λ (x : ℕ). scaled p (inv_mod p x) row) value ∙ scaled-stands p m (inv_mod p (w c)) w row s

  entries-of-U : length (nonzeros (scaled p 1 row)) ≡ length (nonzeros (next_upper_row p m c w))
  entries-of-U =
      sym (count-scaled p (inv_mod p (get_or row c 0 % p)) row (rw value (inverse-invertible p (w c) invertible)))
      ∙ ap (λ (u : List ℕ). length (nonzeros u)) row-of-U

  entries-of-L : length (nonzeros (cs ++ (w c ∷ []))) ≡ length (nonzeros cs) + 1
  unfolding nonzeros
  entries-of-L = count-append cs (w c ∷ []) ∙ ap (λ (n : ℕ). length (nonzeros cs) + n) (nonzeros-one (w c) [] here)

  pub pivot-taken : (total₁ : ℕ) → total₁ ≡ total + length (nonzeros cs) → (row' lc lv uc uv : List ℕ) (o : Step)
      → PivotOutcome p c r at l₁ total₁ row (entry_lists_of lc₁ lv₁ uc₀ uv₀) row' (entry_lists_of lc lv uc uv) o
      → PivotFound p at l total (reduction_of m cs w c) (entry_lists_of lc₀ lv₀ uc₀ uv₀) (entry_lists_of lc lv uc uv) o
  pivot-taken total₁ et row' lc lv uc uv o h =
      record {
        fit = (λ t. leb (all t) (same t) && leb (at + sym entries-of-U t) (length uc₀)) ∙ h.fit;
        lower = λ e. let q = h.put e in
            stored-then 0 l cs (w c ∷ []) lc₀ lv₀ lc₁ lv₁ lc lv l₁ o.l d (last q);
        upper = λ e. let q = (h.put e).upper.stored in rw row-of-U at q;
        count = λ e. let q = h.put e in omega (arith, q.count, entries-of-L);
      }
    where
      all : total + length (nonzeros (cs ++ (w c ∷ []))) ≡ total₁ + 1
      all = omega (arith, entries-of-L)

      same : length lc₀ ≡ length lc₁
      same = sym (stored-columns 0 l cs lc₀ lv₀ lc₁ lv₁ l₁ d)

      last : PivotStored p c r at l₁ total₁ row (entry_lists_of lc₁ lv₁ uc₀ uv₀) row' (entry_lists_of lc lv uc uv) o → DenseStored (0 + length cs) l₁ (w c ∷ []) lc₁ lv₁ lc lv o.l
      last q = rw (q.column, q.value, value, q.place, sym long, zero-add) (stored_one (length cs) l₁ (w c) lc₁ lv₁ here)

-- ---- a row that is reduced first

module _ (p i r at l total : ℕ) (A : Compressed) (columns us w lc lv uc uv : List ℕ) (h : OtherReady p i r at l total A columns us w (entry_lists_of lc lv uc uv)) where
  abbrev m : ℕ
  m = length w

  abbrev reduction : Reduction
  reduction = reduction_by p m r (take r columns) (cut r at us uc uv) (matrix A i)

  abbrev cs : List ℕ
  cs = reduction.multiples

  abbrev rest : Vector
  rest = reduction.remainder

  -- its lowest-numbered column that is not 0, or m
  abbrev c : ℕ
  c = reduction.column

  cs-long : length cs ≡ r
  unfolding multiples
  cs-long = length-tabulate r _

  module _ (lc₁ lv₁ row : List ℕ) (o : Gathered) (g : RowGathered p l total reduction lc lv lc₁ lv₁ row o) where
    -- its multiples do not fit
    pub other-over : o.over ≡ true → (uc' uv' row' : List ℕ) (found at' l' total' : ℕ) → RowFound p at l total reduction (entry_lists_of lc lv uc uv) (entry_lists_of lc₁ lv₁ uc' uv') row' (record { over = true; column = found; at = at'; l = l'; total = total' })
    other-over e uc' uv' row' found at' l' total' =
        record {
          pivot = λ b. record {
            fit = ap (λ (x : Bool). x && leb (at + length (nonzeros (next_upper_row p m c rest))) (length uc))
                (lt-leb (total + length (nonzeros (cs ++ (rest c ∷ [])))) (length lc) (omega (arith, few, count-append cs (rest c ∷ []))));
            lower = λ z. absurd (true≢false z);
            upper = λ z. absurd (true≢false z);
            count = λ z. absurd (true≢false z);
          };
          dependent = λ b. record {
            fit = g.fit ∙ ap not e;
            lower = λ z. absurd (true≢false z);
            upper = λ z. absurd (true≢false z);
            place = λ z. absurd (true≢false z);
            count = λ z. absurd (true≢false z);
          };
          column = λ z. absurd (true≢false z);
          clear = λ z. absurd (true≢false z);
        }
      where
        few : length lc < total + length (nonzeros cs)
        few = leb-false (total + length (nonzeros cs)) (length lc) (g.fit ∙ ap not e)

    module _ (e : o.over ≡ false) where
      stored : DenseStored 0 l cs lc lv lc₁ lv₁ o.next
      stored = g.stored e

      pub enough : total + length (nonzeros cs) ≤ length lc
      enough = leb-true (total + length (nonzeros cs)) (length lc) (g.fit ∙ ap not e)

      pub next_place : o.next ≡ l + length (nonzeros cs)
      next_place = stored.place

      module _ (found : ℕ) (ef : found ≡ first (length row) (λ j. eqb (get_or row j 0 % p) 0)) where
        found-is : found ≡ c
        found-is =
            ef
            ∙ ap (λ (n : ℕ). first n (λ j. eqb (get_or row j 0 % p) 0)) (g.remainder e).long
            ∙ first-ext m (λ j. eqb (get_or row j 0 % p) 0) (λ j. eqb (rest j) 0) (λ j b. ap (λ (x : ℕ). eqb x 0) ((g.remainder e).cells j b))

        -- nothing remains
        pub other-dependent : found ≡ length row → (row' : List ℕ) → row' ≡ zeros (length row) → (total' : ℕ) → total' ≡ total + (o.next - l)
            → RowFound p at l total reduction (entry_lists_of lc lv uc uv) (entry_lists_of lc₁ lv₁ uc uv) row' (record { over = false; column = found; at = at; l = l; total = total' })
        other-dependent ec row' er total' et =
            record {
              pivot = λ b. absurd (omega (arith, ec, found-is, (g.remainder e).long));
              dependent = λ b. record {
                fit = g.fit ∙ ap not e;
                lower = λ z. subst (λ (k : ℕ). DenseStored 0 l cs lc lv lc₁ lv₁ k) next_place stored;
                upper = λ z. (refl, refl);
                place = λ z. (refl, refl);
                count = λ z. omega (arith, next_place);
              };
              column = λ z. found-is;
              clear = λ z. er ∙ ap zeros (g.remainder e).long;
            }

        module _ (some : ¬ (found ≡ length row)) where
          inside : c < m
          inside = apart (ℕ_discrete c m)
            where
              apart : Dec (c ≡ m) → c < m
              apart (yes q) = absurd (some (found-is ∙ q ∙ sym (g.remainder e).long))
              apart (no q) = omega (arith, first-most m (λ j. eqb (rest j) 0))

          here : ¬ (rest c ≡ 0)
          here = eqb-false (rest c) 0 (first-here m (λ j. eqb (rest j) 0) inside)

          pub other-pivot : (total₁ : ℕ) → total₁ ≡ total + (o.next - l) → PivotReady p found r at o.next total₁ row (entry_lists_of lc₁ lv₁ uc uv)
          other-pivot total₁ et =
              record {
                prime = h.prime;
                column = omega (arith, found-is, inside, (g.remainder e).long);
                here = λ z. here (sym ((g.remainder e).cells c inside) ∙ ap (λ (j : ℕ). get_or row j 0 % p) (sym found-is) ∙ z);
                lists = record {
                  narrow = omega (arith, h.lists.narrow, (g.remainder e).long);
                  rank = h.lists.rank;
                  L-paired = stored-columns 0 l cs lc lv lc₁ lv₁ o.next stored ∙ h.lists.L-paired ∙ sym (stored-values 0 l cs lc lv lc₁ lv₁ o.next stored);
                  U-paired = h.lists.U-paired;
                  L-place = omega (arith, next_place, h.lists.L-place);
                  L-room = omega (arith, next_place, enough, stored-columns 0 l cs lc lv lc₁ lv₁ o.next stored);
                  U-room = h.lists.U-room;
                };
              }

          -- something remains
          pub other-taken : (total₁ : ℕ) → total₁ ≡ total + (o.next - l) → (row' lc' lv' uc' uv' : List ℕ) (s : Step) → s.column ≡ found
              → PivotOutcome p found r at o.next total₁ row (entry_lists_of lc₁ lv₁ uc uv) row' (entry_lists_of lc' lv' uc' uv') s
              → RowFound p at l total reduction (entry_lists_of lc lv uc uv) (entry_lists_of lc' lv' uc' uv') row' s
          other-taken total₁ et row' lc' lv' uc' uv' s ec d =
              record {
                pivot = λ b. pivot-taken p m r at l total cs rest c lc lv uc uv row lc₁ lv₁ o.next h.prime cs-long inside here (g.remainder e) stored total₁ (omega (arith, next_place)) row' lc' lv' uc' uv' s (rw found-is at d);
                dependent = λ b. absurd (omega (arith, inside));
                column = λ z. ec ∙ found-is;
                clear = λ z. (d.put z).upper.cleared ∙ ap zeros (g.remainder e).long;
              }

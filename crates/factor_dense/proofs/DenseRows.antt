-- A row taken in the block: what the first rows of U and then those of the block leave of it and store is what all rows of U leave and store.
use mathlib.Core.Path.{◌≡◌, refl, sym, ap, ap₂, ◌∙◌, subst}
use mathlib.Core.Bool.{Bool, true, false, not, ◌&&◌, true≢false}
use mathlib.Core.List.{List, [], ◌∷◌, ◌++◌}
use Prim.Native.Nat.{ℕ, zero, suc, ◌+◌, ◌-◌, ◌*◌, ◌%◌, ◌≤◌, ◌<◌}
use native.Mathlib.Nat.{zero-mod, zero-add}
use native.Mathlib.Decide.{ℕ_discrete}
use native.Mathlib.Omega.{arith}
use lib.Dec.{leb, eqb}
use borrow.Author.Tests.{leb-true, leb-false, le-leb, lt-leb, eqb-false}
use lib.ListN.{length, get_or, take}
use lib.Seq.{get_or-take, take_all, length-take-le}
use Rattle.lists.specs.Tabulate.{tabulate}
use Rattle.lists.specs.Tests.{first}
use Rattle.lists.proofs.Filled.{length-zeros}
use Rattle.lists.proofs.Tabulate.{length-tabulate, tabulate-at, tabulate-ext, tabulated}
use Rattle.lists.proofs.Tests.{first-here}
use Rattle.algebra.specs.Matrix.{Vector, Matrix, vector}
use Rattle.algebra.specs.Reduction.{reduced, multiples}
use Rattle.residue.specs.Inverse.{inv_mod}
use Rattle.sparse.specs.Matrix.{Compressed, matrix}
use Rattle.sparse.specs.Dense.{columns_from, nonzeros}
use Rattle.sparse.specs.Storing.{DenseStored}
use Rattle.sparse.proofs.Nonzeros.{count-append, nonzeros-one, stored-then, stored-columns, stored-values}
use Rattle.sparse.proofs.Rows.{form-below}
use Rattle.factor_row.specs.Gathering.{Reduction, reduction_by, cut}
use Rattle.factor_row.specs.Entries.{entry_lists_of}
use Rattle.factor_row.specs.Taking.{next_upper_row}
use Rattle.factor_row.proofs.GatheredRows.{same-room}
use Rattle.factor_row.proofs.TakenRows.{first-most}
use Rattle.factor_dense.specs.declared.taking.LeftRow.{LeftRow}
use Rattle.factor_dense.specs.declared.taking.DenseStep.{DenseStep}
use Rattle.factor_dense.specs.Block.{cells_of, Upper, where_nonzero}
use Rattle.factor_dense.specs.Taking.{residues_of, BlockReduced}
use Rattle.factor_dense.specs.Turn.{dense_step_of, LeftRowFound, LowerFound, UpperFound, NextRow, DenseTaken}
use Rattle.factor_dense.specs.Needs.{DenseUpperReady, DenseReady}
use Rattle.factor_dense.proofs.Reduction.{tabulate-add}
use Rattle.factor_dense.proofs.InBlock.{Begun, block-cell, lower-stored, lower-count, found_within, block-pivot, block-dependent, scaled-cell, scaled-past, upper-columns, upper-values}

-- a number below 32 that fails a test
found_inside : (k : ℕ) (t : ℕ → Bool) → k ≡ first 32 t → (k ≡ 32 → ⊥) → k < 32
found_inside k t e some = go (ℕ_discrete k 32)
  where
    go : Dec (k ≡ 32) → k < 32
    go (yes q) = absurd (some q)
    go (no q) = omega (arith, first-most 32 t)

-- a list by index, cut
cut-tabulate : (n : ℕ) (xs : List ℕ) → n ≤ length xs → take n xs ≡ tabulate n (vector xs)
cut-tabulate n xs h = tabulated n (vector xs) (take n xs) (length-take-le n xs h) (λ i g. get_or-take n xs i 0 g)

-- ---- the first rows of U

-- a reduction by s rows looks at their s columns only
module _ (p s r : ℕ) (columns : List ℕ) (U₀ U : Matrix) (y : Vector) (low : s ≤ r) (same : (k j : ℕ) → k < s → U₀ k j ≡ U k j) where
  column : (k : ℕ) → k < s → vector (take s columns) k ≡ vector (take r columns) k
  column k h = get_or-take s columns k 0 h ∙ sym (get_or-take r columns k 0 (omega arith))

  first_reduced : (k : ℕ) → k ≤ s → (j : ℕ) → reduced p (vector (take s columns)) U₀ k y j ≡ reduced p (vector (take r columns)) U k y j
  unfolding reduced
  first_reduced zero h j = refl
  first_reduced (suc k) h j =
      let before = first_reduced k (omega arith) in
      λ i. (before j i + (p - (before (vector (take s columns) k) ∙ ap (reduced p (vector (take r columns)) U k y) (column k h)) i) * same k j h i) % p

  first-multiples : multiples p s (vector (take s columns)) U₀ y ≡ multiples p s (vector (take r columns)) U y
  unfolding multiples
  first-multiples =
      tabulate-ext s (λ k. reduced p (vector (take s columns)) U₀ k y (vector (take s columns) k)) (λ k. reduced p (vector (take r columns)) U k y (vector (take r columns) k))
      (λ k h. first_reduced k (omega arith) (vector (take s columns) k) ∙ ap (reduced p (vector (take r columns)) U k y) (column k h))

-- more rows give no fewer entries
fewer : (p s b : ℕ) (C : Vector) (U : Matrix) (y : Vector) → length (nonzeros (multiples p s C U y)) ≤ length (nonzeros (multiples p (s + b) C U y))
unfolding multiples
fewer p s b C U y =
    omega (arith, ap (λ (z : List ℕ). length (nonzeros z)) (tabulate-add s b (λ k. reduced p C U k y (C k))) ∙ count-append (tabulate s (λ k. reduced p C U k y (C k))) (tabulate b (λ t. reduced p C U (s + t) y (C (s + t)))))

multiples-long : (p r : ℕ) (C : Vector) (U : Matrix) (y : Vector) → length (multiples p r C U y) ≡ r
unfolding multiples
multiples-long p r C U y = length-tabulate r (λ k. reduced p C U k y (C k))

-- ---- the row

module _ (p i s front r at l total : ℕ) (A : Compressed) (columns us js : List ℕ) (width : ℕ) (ks : List ℕ) (block : List (List ℕ)) (w lc lv uc uv : List ℕ)
    (h : DenseReady p i s front r at l total A columns us js width ks block w (entry_lists_of lc lv uc uv)) where
  abbrev m : ℕ
  m = length w

  abbrev C : Vector
  C = vector (take r columns)

  abbrev U : Matrix
  U = matrix (cut r at us uc uv)

  abbrev y : Vector
  y = matrix A i

  -- its row of L, what remains of it, and its lowest-numbered column that is not 0, or m
  abbrev reduction : Reduction
  reduction = reduction_by p m r (take r columns) (cut r at us uc uv) y

  abbrev cs : List ℕ
  cs = reduction.multiples

  abbrev rest : Vector
  rest = reduction.remainder

  abbrev c : ℕ
  c = reduction.column

  -- the same by the first s rows
  abbrev reduction₀ : Reduction
  reduction₀ = reduction_by p m s (take s columns) (cut s front us uc uv) y

  abbrev cs₀ : List ℕ
  cs₀ = reduction₀.multiples

  whole : s + (r - s) ≡ r
  whole = omega (arith, h.low)

  begins : cs₀ ≡ multiples p s C U y
  begins = first-multiples p s r columns (matrix (cut s front us uc uv)) U y h.low h.same

  small : (j : ℕ) → j < m → y j < p
  small j g = form-below p m A.starts A.cols A.vals h.row.row.row.row.formed i j h.upper.positive

  all-rows : Upper p m (s + (r - s)) C U
  all-rows = rw whole h.upper

  -- its row of L does not fit
  too_many : length lc < total + length (nonzeros cs) → (lc' lv' uc' uv' work' : List ℕ) (o : DenseStep) → o.step.over ≡ true
      → DenseTaken p at l total reduction width js (entry_lists_of lc lv uc uv) (entry_lists_of lc' lv' uc' uv') work' o
  too_many few lc' lv' uc' uv' work' o eo =
      record {
        taken = record {
          pivot = λ g. record {
            fit = ap (λ (x : Bool). x && leb (at + length (nonzeros (next_upper_row p m c rest))) (length uc))
                (lt-leb (total + length (nonzeros (cs ++ (rest c ∷ [])))) (length lc) (omega (arith, count-append cs (rest c ∷ []))))
                ∙ ap not (sym eo);
            lower = λ z. absurd (true≢false (sym eo ∙ z));
            upper = λ z. absurd (true≢false (sym eo ∙ z));
            count = λ z. absurd (true≢false (sym eo ∙ z));
          };
          dependent = λ g. record {
            fit = lt-leb (total + length (nonzeros cs)) (length lc) few ∙ ap not (sym eo);
            lower = λ z. absurd (true≢false (sym eo ∙ z));
            upper = λ z. absurd (true≢false (sym eo ∙ z));
            place = λ z. absurd (true≢false (sym eo ∙ z));
            count = λ z. absurd (true≢false (sym eo ∙ z));
          };
          column = λ z. absurd (true≢false (sym eo ∙ z));
          clear = λ z. absurd (true≢false (sym eo ∙ z));
        };
        next = λ z g. absurd (true≢false (sym eo ∙ z));
      }

  -- ---- reduced by the first s rows

  module _ (lc₁ lv₁ work₁ : List ℕ) (left : LeftRow) (g : LeftRowFound p l total reduction₀ width js lc lv lc₁ lv₁ work₁ left) where
    abbrev next₁ : ℕ
    next₁ = left.next

    abbrev row₀ : List ℕ
    row₀ = left.row

    -- its first multiples do not fit
    pub first-over : left.over ≡ true → (lc' lv' uc' uv' work' : List ℕ) (o : DenseStep) → o.step.over ≡ true
        → DenseTaken p at l total reduction width js (entry_lists_of lc lv uc uv) (entry_lists_of lc' lv' uc' uv') work' o
    first-over e =
        let few : length lc < total + length (nonzeros cs₀) = leb-false (total + length (nonzeros cs₀)) (length lc) (g.fit ∙ ap not e) in
        too_many (omega (arith, ap (λ (z : List ℕ). length (nonzeros z)) begins, fewer-rows))
      where
        fewer-rows : length (nonzeros (multiples p s C U y)) ≤ length (nonzeros cs)
        fewer-rows = rw whole at (fewer p s (r - s) C U y)

    module _ (e : left.over ≡ false) where
      stored₁ : DenseStored 0 l cs₀ lc lv lc₁ lv₁ next₁
      stored₁ = g.stored e

      enough₁ : total + length (nonzeros cs₀) ≤ length lc
      enough₁ = leb-true (total + length (nonzeros cs₀)) (length lc) (g.fit ∙ ap not e)

      long-columns : length lc₁ ≡ length lc
      long-columns = stored-columns 0 l cs₀ lc lv lc₁ lv₁ next₁ stored₁

      begun : Begun p s width (vector js) C U y row₀
      begun =
          record {
            cells = λ k a. g.cells e k a ∙ first_reduced p s r columns (matrix (cut s front us uc uv)) U y h.low h.same s (omega arith) (get_or js k 0);
            past = λ k a. ap (λ (z : ℕ). z % p) (g.past k a) ∙ zero-mod p;
          }

      -- ---- and by the block

      module _ (limit : ℕ) (el : limit ≡ l + (length lc₁ - total)) where
        module _ (lc₂ lv₂ : List ℕ) (lower : LeftRow) (d : LowerFound p s (r - s) next₁ limit ks block row₀ lc₁ lv₁ lc₂ lv₂ lower) where
          abbrev next₂ : ℕ
          next₂ = lower.next

          abbrev row₁ : List ℕ
          row₁ = lower.row

          abbrev ms : List ℕ
          ms = multiples p (r - s) (vector ks) (cells_of block) (residues_of p row₀)

          done : BlockReduced p (r - s) ks block row₀ row₁ ms
          done = record { remainder = d.remainder; taken = take_all (r - s) ms (omega (arith, multiples-long p (r - s) (vector ks) (cells_of block) (residues_of p row₀))) }

          count : length (nonzeros cs) ≡ length (nonzeros cs₀) + length (nonzeros ms)
          count =
              ap (λ (n : ℕ). length (nonzeros (multiples p n C U y))) (sym whole)
              ∙ lower-count p m s (r - s) width (vector js) C ks U block y row₀ row₁ ms all-rows small h.left h.narrow h.holds begun done
              ∙ (λ t. length (nonzeros (sym begins t)) + length (nonzeros (done.taken t)))

          -- the multiples of the block's rows do not fit
          pub block-over : lower.over ≡ true → (lc' lv' uc' uv' work' : List ℕ) (o : DenseStep) → o.step.over ≡ true
              → DenseTaken p at l total reduction width js (entry_lists_of lc lv uc uv) (entry_lists_of lc' lv' uc' uv') work' o
          block-over e₂ =
              let few : limit < next₁ + length (nonzeros ms) = leb-false (next₁ + length (nonzeros ms)) limit (d.taken.fit ∙ ap not e₂) in
              too_many (omega (arith, count, stored₁.place, enough₁, long-columns))

          module _ (e₂ : lower.over ≡ false) where
            stored₂ : DenseStored 0 l cs lc lv lc₂ lv₂ next₂
            stored₂ =
                let a : DenseStored 0 l (multiples p s C U y) lc lv lc₁ lv₁ next₁ = rw begins at stored₁ in
                let z : DenseStored s next₁ (take (r - s) ms) lc₁ lv₁ lc₂ lv₂ next₂ = rw done.taken (d.taken.stored e₂) in
                rw whole at
                (lower-stored p m s (r - s) width (vector js) C ks U block y row₀ row₁ ms all-rows small h.left h.narrow h.holds begun done l lc lv lc₁ lv₁ lc₂ lv₂ next₁ next₂ a z)

            pub enough : total + length (nonzeros cs) ≤ length lc
            enough = omega (arith, leb-true (next₁ + length (nonzeros ms)) limit (d.taken.fit ∙ ap not e₂), count, stored₁.place, enough₁, long-columns)

            pub next_place : next₂ ≡ l + length (nonzeros cs)
            next_place = stored₂.place

            long₂ : length lc₂ ≡ length lc
            long₂ = stored-columns 0 l cs lc lv lc₂ lv₂ next₂ stored₂

            module _ (k : ℕ) (ek : k ≡ first 32 (λ t. eqb (get_or row₁ t 0 % p) 0)) where
              -- nothing remains
              pub block-nothing : k ≡ 32 → (found total' : ℕ) → found ≡ length work₁ → total' ≡ total + (next₂ - l) → (place : ℕ) (row' : List ℕ) (o : DenseStep)
                  → o ≡ dense_step_of false found at l total' place row' → DenseTaken p at l total reduction width js (entry_lists_of lc lv uc uv) (entry_lists_of lc₂ lv₂ uc uv) work₁ o
              block-nothing e₃ found total' ef et place row' o eo =
                  rw eo (record {
                    taken = record {
                      pivot = λ z. absurd (omega (arith, none));
                      dependent = λ z. record {
                        fit = le-leb (total + length (nonzeros cs)) (length lc) enough;
                        lower = λ z. subst (λ (n : ℕ). DenseStored 0 l cs lc lv lc₂ lv₂ n) next_place stored₂;
                        upper = λ z. (refl, refl);
                        place = λ z. (refl, refl);
                        count = λ z. omega (arith, next_place);
                      };
                      column = λ z. all ∙ sym none;
                      clear = λ z. g.clear;
                    };
                    next = λ z a. absurd (omega (arith, all));
                  })
                where
                  all : found ≡ m
                  all = ef ∙ ap length g.clear ∙ length-zeros m

                  none : c ≡ m
                  none =
                      rw whole at
                      (block-dependent p m s (r - s) width (vector js) C ks U block y row₀ row₁ ms all-rows small h.left h.narrow h.holds begun done (sym ek ∙ e₃))

              -- something remains
              module _ (some : k ≡ 32 → ⊥) (sum : ℕ) (es : sum ≡ total + (next₂ - l)) where
                inside : k < 32
                inside = found_inside k (λ t. eqb (get_or row₁ t 0 % p) 0) ek some

                within : k < width
                within =
                    rw ek
                    (found_within p m s (r - s) width (vector js) C ks U block y row₀ row₁ ms all-rows small h.left h.narrow h.holds begun done (rw ek at inside))

                pub upper-ready : DenseUpperReady p r k at next₂ limit sum width js row₁ (entry_lists_of lc₂ lv₂ uc uv)
                upper-ready =
                    record {
                      prime = h.prime;
                      place = within;
                      narrow = h.narrow;
                      here = rw ek (eqb-false (get_or row₁ (first 32 (λ t. eqb (get_or row₁ t 0 % p) 0)) 0 % p) 0 (first-here 32 (λ t. eqb (get_or row₁ t 0 % p) 0) (rw ek at inside)));
                      columns = λ t a. omega (arith, h.left.inside t a, h.lists.narrow);
                      rank = h.lists.rank;
                      few = omega (arith, next_place, enough, long₂);
                      lower = record {
                        place = omega (arith, next_place, enough, long-columns);
                        room = omega (arith, h.lists.L-place, h.lists.L-room, long-columns, long₂);
                        paired = long₂ ∙ h.lists.L-paired ∙ sym (stored-values 0 l cs lc lv lc₂ lv₂ next₂ stored₂);
                      };
                      upper = record { place = h.lists.U-room; room = omega arith; paired = h.lists.U-paired };
                    }

                column-inside : get_or js k 0 < m
                column-inside = h.left.inside k within

                column-is : c ≡ get_or js k 0
                column-is =
                    rw ek
                    (rw whole at
                    (block-pivot p m s (r - s) width (vector js) C ks U block y row₀ row₁ ms all-rows small h.left h.narrow h.holds begun done (rw ek at inside)))

                value : get_or row₁ k 0 % p ≡ rest c
                value =
                    rw column-is
                    (rw whole at (block-cell p m s (r - s) width (vector js) C ks U block y row₀ row₁ ms all-rows small h.left h.narrow h.holds begun done k within))

                one_more : length (nonzeros (cs ++ (rest c ∷ []))) ≡ length (nonzeros cs) + 1
                unfolding nonzeros
                one_more = count-append cs (rest c ∷ []) ∙ ap (λ (n : ℕ). length (nonzeros cs) + n) (nonzeros-one (rest c) [] (λ z. upper-ready.here (value ∙ z)))

                module _ (lc₃ lv₃ uc₃ uv₃ : List ℕ) (upper : DenseStep)
                    (u : UpperFound p r k at next₂ limit sum width js row₁ (entry_lists_of lc₂ lv₂ uc uv) (entry_lists_of lc₃ lv₃ uc₃ uv₃) upper) where
                  abbrev new : List ℕ
                  new = upper.row

                  abbrev v : ℕ
                  v = inv_mod p (get_or row₁ k 0 % p)

                  -- the cells as a row of U
                  abbrev cells : List ℕ
                  cells = tabulate m (λ j. v * rest j % p)

                  row-of-U : cells ≡ next_upper_row p m c rest
                  unfolding next_upper_row
                  row-of-U = ap (λ (x : ℕ). tabulate m (λ j. inv_mod p x * rest j % p)) value

                  new-cells : take width new ≡ tabulate width (vector new)
                  new-cells = cut-tabulate width new (omega (arith, h.narrow, u.scaled.long))

                  columns-of-U : length js ≡ 32 → columns_from 0 (next_upper_row p m c rest) ≡ where_nonzero (take width js) (take width new)
                  columns-of-U long =
                      ap (columns_from 0) (sym row-of-U)
                      ∙ rw whole at
                      (upper-columns p m s (r - s) width (vector js) C ks U block y row₀ row₁ ms all-rows small h.left h.narrow h.holds begun done v new u.scaled)
                      ∙ ap₂ where_nonzero (sym (cut-tabulate width js (omega (arith, h.narrow)))) (sym new-cells)

                  values-of-U : nonzeros (next_upper_row p m c rest) ≡ nonzeros (take width new)
                  values-of-U =
                      ap nonzeros (sym row-of-U)
                      ∙ rw whole at
                      (upper-values p m s (r - s) width (vector js) C ks U block y row₀ row₁ ms all-rows small h.left h.narrow h.holds begun done v new u.scaled)
                      ∙ ap nonzeros (sym new-cells)

                  next_row : NextRow p m width js rest (get_or js k 0) k new
                  unfolding next_upper_row
                  next_row =
                      record {
                        within = within;
                        pivot = refl;
                        cells = λ t a. new-cell t a
                            ∙ ap (λ (x : ℕ). inv_mod p x * rest (get_or js t 0) % p) (value ∙ ap rest column-is)
                            ∙ sym (tabulate-at m (λ j. inv_mod p (rest (get_or js k 0)) * rest j % p) (get_or js t 0) (h.left.inside t a));
                        past = scaled-past p m s (r - s) width (vector js) C ks U block y row₀ row₁ ms all-rows small h.left h.narrow h.holds begun done v new u.scaled;
                      }
                    where
                      new-cell : (t : ℕ) → t < width → get_or new t 0 ≡ v * rest (get_or js t 0) % p
                      new-cell t a =
                          rw whole at
                          (scaled-cell p m s (r - s) width (vector js) C ks U block y row₀ row₁ ms all-rows small h.left h.narrow h.holds begun done v new u.scaled t a)

                  pub block-pivot-row : length js ≡ 32 → DenseTaken p at l total reduction width js (entry_lists_of lc lv uc uv) (entry_lists_of lc₃ lv₃ uc₃ uv₃) work₁ upper
                  block-pivot-row long =
                      record {
                        taken = record {
                          pivot = λ z. record {
                            fit = ap₂ (λ (a b : Bool). a && b) room-of-L (ap (λ (z : List ℕ). leb (at + length z) (length uc)) values-of-U) ∙ u.fit;
                            lower = λ z. stored-then 0 l cs (rest c ∷ []) lc lv lc₂ lv₂ lc₃ lv₃ next₂ upper.step.l stored₂ (last (u.lower z));
                            upper = λ z. record {
                              place = (u.upper z).place ∙ ap (λ (z : List ℕ). at + length z) (sym values-of-U);
                              columns = rw (columns-of-U long) (u.upper z).columns;
                              values = rw values-of-U (u.upper z).values;
                            };
                            count = λ z. omega (arith, u.count, next_place, one_more);
                          };
                          dependent = λ z. absurd (omega (arith, column-is, column-inside));
                          column = λ z. u.column ∙ sym column-is;
                          clear = λ z. g.clear;
                        };
                        next = λ z a. rw (u.column, u.place) next_row;
                      }
                    where
                      places : next₂ + 1 ≡ l + length (nonzeros (cs ++ (rest c ∷ [])))
                      places = omega (arith, next_place, one_more)

                      room-of-L : leb (total + length (nonzeros (cs ++ (rest c ∷ [])))) (length lc) ≡ leb (next₂ + 1) limit
                      room-of-L =
                          sym (same-room l total (length (nonzeros (cs ++ (rest c ∷ [])))) (length lc) h.lists.L-room)
                          ∙ ap₂ leb (sym places) (ap (λ (n : ℕ). l + (n - total)) (sym long-columns) ∙ sym el)

                      last : DenseStored r next₂ (get_or row₁ k 0 % p ∷ []) lc₂ lv₂ lc₃ lv₃ upper.step.l → DenseStored (0 + length cs) next₂ (rest c ∷ []) lc₂ lv₂ lc₃ lv₃ upper.step.l
                      last z = rw (zero-add, multiples-long p r C U y, sym value) z

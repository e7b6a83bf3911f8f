-- The loop over the pivots: after k rows the first k multiples are stored, every cell stands for what remains, and what is not marked is 0.
use mathlib.Core.Path.{◌≡◌, refl, sym, ap, ◌∙◌, subst}
use mathlib.Core.Bool.{Bool, true, false, true≢false}
use mathlib.Core.List.{List}
use Prim.Native.Nat.{ℕ, zero, suc, ◌+◌, ◌-◌, ◌/◌, ◌%◌, ◌≤◌, ◌<◌}
use native.Mathlib.Nat.{zero-mod}
use native.Mathlib.Decide.{ℕ_discrete, dec_lt}
use native.Mathlib.Omega.{arith}
use lib.ListN.{length, get_or, set}
use Rattle.lists.specs.Tabulate.{tabulate}
use Rattle.algebra.specs.Matrix.{vector}
use Rattle.algebra.specs.Reduction.{reduced, multiples}
use Rattle.sparse.specs.Row.{Below}
use Rattle.sparse.specs.Matrix.{Compressed, matrix}
use Rattle.sparse.proofs.Nonzeros.{stored-none}
use Rattle.factor_touch.specs.Touched.{cell_block}
use Rattle.factor_touch.specs.Searching.{FirstNonzero}
use Rattle.factor_touch.proofs.Marking.{free-here}
use Rattle.factor_reduce.proofs.Gathering.{entry-none, entry-over, entry-stored, Gathering, gathering-ends, gathering-zero, gathering-turn, gathering-over}
use Rattle.factor_marked.specs.Marking.{residues, cell_bound, Marks, MultipleMarked, PivotMarked, MultiplesMarked}
use Rattle.factor_marked.specs.Pivots.{pivot_cell, PivotSearchReady}
use Rattle.factor_marked.specs.Needs.{PivotStepReady, MarkedGatherReady}
use Rattle.factor_marked.proofs.Residues.{residues-long, residue-at, residue-twice, residues-small, bound-starts, bound-later}

-- ---- one pivot

module _ (p k c : ℕ) (U : Compressed) (at limit : ℕ) (place touched pending w lc lv : List ℕ) (full : Bool) (h : PivotStepReady p k c U at limit place touched pending w lc lv full)
    (touched' pending' w' : List ℕ) (x : ℕ) (full' : Bool) (t : MultipleMarked p k c (matrix U k) place w touched' pending' w' x full') where
  pub pivot-none : x ≡ 0 → PivotMarked p k c (matrix U k) at limit place w lc lv touched' pending' w' lc lv false at full'
  pivot-none z =
      record {
        entry = entry-none p k c (matrix U k) x at limit (residues p w) lc lv (residues p w') t.taken h.lists.place z;
        below = t.below;
        cleared = t.cleared;
        still = t.still;
        marks = t.marks;
      }

  module _ (some : x ≡ 0 → ⊥) where
    pub pivot-over : at ≡ limit → PivotMarked p k c (matrix U k) at limit place w lc lv touched' pending' w' lc lv true at full'
    pivot-over e =
        record {
          entry = entry-over p k c (matrix U k) x at limit (residues p w) lc lv (residues p w') t.taken some e lc lv at;
          below = t.below;
          cleared = t.cleared;
          still = t.still;
          marks = t.marks;
        }

    pub pivot-stored : at < limit → PivotMarked p k c (matrix U k) at limit place w lc lv touched' pending' w' (set lc at k) (set lv at x) false (at + 1) full'
    pivot-stored room =
        record {
          entry = entry-stored p k c (matrix U k) x at limit (residues p w) lc lv (residues p w') t.taken some room;
          below = t.below;
          cleared = t.cleared;
          still = t.still;
          marks = t.marks;
        }

-- ---- where the loop stands: k rows were taken away

pub record MarkedGathering (p : ℕ) (C : List ℕ) (U : Compressed) (l limit : ℕ) (place w₀ lc₀ lv₀ touched pending w lc lv : List ℕ) (full : Bool) (next k : ℕ) : Type 0 where
  pub rows : Gathering p C U l limit w₀ lc₀ lv₀ (residues p w) lc lv next k
  pub below : Below (cell_bound p k) w
  pub cleared : (j : ℕ) → j < k → get_or w (vector C j) 0 ≡ 0
  pub marks : Marks place touched pending w full

module _ (p : ℕ) (C : List ℕ) (U : Compressed) (l limit : ℕ) (place touched₀ pending₀ w₀ lc₀ lv₀ : List ℕ) (full₀ : Bool)
    (ready : MarkedGatherReady p C U l limit place touched₀ pending₀ w₀ lc₀ lv₀ full₀) where
  positive : 0 < p
  positive = ready.rows.upper.positive

  pub marked-starts : MarkedGathering p C U l limit place w₀ lc₀ lv₀ touched₀ pending₀ w₀ lc₀ lv₀ full₀ l 0
  unfolding reduced multiples tabulate
  marked-starts =
      record {
        rows = record {
          inside = omega arith;
          row = record { long = residues-long p w₀; below = residues-small p w₀ positive; cells = λ j h. residue-twice p w₀ positive j h };
          stored = stored-none 0 l lc₀ lv₀;
          room = ready.rows.lists.place;
        };
        below = bound-starts p w₀ ready.rows.upper.below;
        cleared = λ j h. absurd (omega arith);
        marks = ready.marks;
      }

  module _ (touched pending w lc lv : List ℕ) (full : Bool) (next k : ℕ) (s : MarkedGathering p C U l limit place w₀ lc₀ lv₀ touched pending w lc lv full next k) where
    pub marked-long : length w ≡ length w₀
    marked-long = sym (residues-long p w) ∙ s.rows.row.long

    pub marked-ends : length C ≤ k → MultiplesMarked p C U l limit w₀ lc₀ lv₀ touched w lc lv (record { over = false; next = next })
    marked-ends h =
        record {
          gathered = gathering-ends p C U l limit w₀ lc₀ lv₀ ready.rows (residues p w) lc lv next k s.rows h;
          covers = λ o j b e. cell j (omega (arith, b, marked-long)) e (ℕ_discrete (get_or place j 0) 2048);
        }
      where
        -- a column is that of a pivot, and cleared, or its block is its own
        cell : (j : ℕ) → j < length w₀ → get_or touched (cell_block j) 0 ≡ 0 → Dec (get_or place j 0 ≡ 2048) → get_or w j 0 ≡ 0
        cell j b e (yes q) = s.marks.cells j (omega (arith, b, marked-long)) (ap (vector touched) (free-here place j q) ∙ e)
        cell j b e (no q) = let t = ready.placed.only j b q in ap (vector w) (sym t.column) ∙ s.cleared t.pivot (omega (arith, t.inside, h))

    -- no cell of the pivots from k to k + d is other than 0: nothing is taken away
    pub marked-pass : (d : ℕ) → k + d ≤ length C → ((j : ℕ) → k ≤ j → j < k + d → get_or w (vector C j) 0 ≡ 0) → Gathering p C U l limit w₀ lc₀ lv₀ (residues p w) lc lv next (k + d)
    marked-pass zero h z = subst (λ (n : ℕ). Gathering p C U l limit w₀ lc₀ lv₀ (residues p w) lc lv next n) (omega arith) s.rows
    marked-pass (suc d) h z =
        subst (λ (n : ℕ). Gathering p C U l limit w₀ lc₀ lv₀ (residues p w) lc lv next n) (omega arith)
        (gathering-zero p C U l limit w₀ lc₀ lv₀ ready.rows (residues p w) lc lv next (k + d) (marked-pass d (omega arith) (λ j a b. z j a (omega arith))) (omega arith) (vector C (k + d)) refl cell)
      where
        inside : vector C (k + d) < length w
        inside = omega (arith, ready.rows.upper.columns.below (k + d) (omega arith), marked-long)

        cell : get_or (residues p w) (vector C (k + d)) 0 ≡ 0
        cell = residue-at p w (vector C (k + d)) inside ∙ ap (λ (y : ℕ). y % p) (z (k + d) (omega arith) (omega arith)) ∙ zero-mod p

    pub marked-search : PivotSearchReady pending C w k
    marked-search =
        record {
          marks = record {
            columns = λ j b. omega (arith, ready.rows.upper.columns.below j b, marked-long);
            few = ready.rows.narrow;
            blocks = omega (arith, s.marks.pivot-blocks, few (ℕ_discrete (length C) 0));
            covers = λ j b e. s.marks.pivots (vector C j) (omega (arith, ready.rows.upper.columns.below j b, marked-long)) (ap (λ (n : ℕ). get_or pending (n / 16) 0) (ready.placed.pivots j b) ∙ e);
          };
          inside = s.rows.inside;
        }
      where
        -- the last pivot has its place
        few : Dec (length C ≡ 0) → length C ≤ 2049
        few (yes e) = omega arith
        few (no e) = let k = length C - 1 in
            omega (arith, ready.placed.pivots k (omega arith), ready.placed.inside (vector C k) (ready.rows.upper.columns.below k (omega arith)))

    pub marked-passed : (r : ℕ) → FirstNonzero (pivot_cell C w) (length C) k r → MarkedGathering p C U l limit place w₀ lc₀ lv₀ touched pending w lc lv full next r
    marked-passed r d =
        record {
          rows = subst (λ (n : ℕ). Gathering p C U l limit w₀ lc₀ lv₀ (residues p w) lc lv next n) whole
              (marked-pass (r - k) (omega (arith, d.span.inside, whole)) (λ j a b. d.span.none j a (omega (arith, b, whole))));
          below = bound-later p w k r d.span.least s.below;
          cleared = λ j b. cleared j b (dec_lt j k);
          marks = s.marks;
        }
      where
        whole : k + (r - k) ≡ r
        whole = omega (arith, d.span.least)

        cleared : (j : ℕ) → j < r → Dec (j < k) → get_or w (vector C j) 0 ≡ 0
        cleared j b (yes a) = s.cleared j a
        cleared j b (no a) = d.span.none j (omega arith) b

    module _ (h : k < length C) (c : ℕ) (ec : c ≡ vector C k) where
      module _ (touched' pending' w' lc' lv' : List ℕ) (over : Bool) (next' : ℕ) (full' : Bool)
          (d : PivotMarked p k c (matrix U k) next limit place w lc lv touched' pending' w' lc' lv' over next' full') where
        marked_turn : over ≡ false → MarkedGathering p C U l limit place w₀ lc₀ lv₀ touched' pending' w' lc' lv' full' next' (k + 1)
        marked_turn o =
            record {
              rows = gathering-turn p C U l limit w₀ lc₀ lv₀ ready.rows (residues p w) lc lv next k s.rows h c ec (residues p w') lc' lv' over next' d.entry o;
              below = d.below;
              cleared = λ j b. cleared j b (ℕ_discrete j k);
              marks = d.marks;
            }
          where
            -- row k of U is 0 at the columns of earlier pivots
            cleared : (j : ℕ) → j < k + 1 → Dec (j ≡ k) → get_or w' (vector C j) 0 ≡ 0
            cleared j b (yes q) = ap (λ (i : ℕ). get_or w' (vector C i) 0) q ∙ ap (vector w') (sym ec) ∙ d.cleared
            cleared j b (no q) =
                d.still (vector C j) (omega (arith, ready.rows.upper.columns.below j (omega arith), marked-long)) (ready.rows.upper.left k j (omega arith) h) (s.cleared j (omega arith))

        pub marked-full : over ≡ true → (touched'' w'' lc'' lv'' : List ℕ) (next'' : ℕ) → MultiplesMarked p C U l limit w₀ lc₀ lv₀ touched'' w'' lc'' lv'' (record { over = true; next = next'' })
        marked-full o touched'' w'' lc'' lv'' next'' =
            record {
              gathered = rw o at (gathering-over p C U l limit w₀ lc₀ lv₀ ready.rows (residues p w) lc lv next k s.rows h c ec (residues p w') lc' lv' over next' d.entry o lc'' lv'' (residues p w'') next'');
              covers = λ e. absurd (true≢false e);
            }

  -- after a turn: the search for the next pivot, and what it comes to
  module _ (touched pending w lc lv : List ℕ) (full : Bool) (next k : ℕ) (s : MarkedGathering p C U l limit place w₀ lc₀ lv₀ touched pending w lc lv full next k) (h : k < length C) (c : ℕ) (ec : c ≡ vector C k)
      (touched' pending' w' lc' lv' : List ℕ) (over : Bool) (next' : ℕ) (full' : Bool)
      (d : PivotMarked p k c (matrix U k) next limit place w lc lv touched' pending' w' lc' lv' over next' full') (o : over ≡ false) where
    turned : MarkedGathering p C U l limit place w₀ lc₀ lv₀ touched' pending' w' lc' lv' full' next' (k + 1)
    turned = marked_turn touched pending w lc lv full next k s h c ec touched' pending' w' lc' lv' over next' full' d o

    pub turn-search : PivotSearchReady pending' C w' (k + 1)
    turn-search = marked-search touched' pending' w' lc' lv' full' next' (k + 1) turned

    pub turn-passed : (r : ℕ) → FirstNonzero (pivot_cell C w') (length C) (k + 1) r → MarkedGathering p C U l limit place w₀ lc₀ lv₀ touched' pending' w' lc' lv' full' next' r
    turn-passed = marked-passed touched' pending' w' lc' lv' full' next' (k + 1) turned

-- One turn: where the lists hold what was found before it, they hold what is found after it.
use mathlib.Core.Path.{◌≡◌, refl, sym, ap, ap₂, ◌∙◌}
use mathlib.Core.Bool.{Bool, true, false, not, ◌&&◌}
use mathlib.Core.List.{List, [], ◌∷◌, ◌++◌}
use Prim.Native.Nat.{ℕ, suc, ◌+◌, ◌-◌, ◌^◌, ◌≤◌, ◌<◌}
use native.Mathlib.Omega.{arith}
use native.Mathlib.Numerals.{add-one}
use lib.Dec.{leb}
use lib.ListN.{length, take, set, length-map}
use lib.Seq.{take-suc-set, length-sets}
use borrow.Author.Tests.{leb-true, le-leb}
use Rattle.lists.proofs.Bools.{and_left, and_right}
use Rattle.algebra.specs.Matrix.{Vector}
use Rattle.sparse.specs.Matrix.{Compressed, compressed}
use Rattle.sparse.specs.Dense.{columns_from, nonzeros, compress}
use Rattle.sparse.specs.Storing.{DenseStored}
use Rattle.sparse.proofs.DenseLaws.{compress-lengths}
use Rattle.elimination.specs.Pivots.{Found, columns_of, uppers_of, rank_of, with_pivot, with_dependent}
use Rattle.elimination.specs.Factoring.{lowers_of, entries, fits}
use Rattle.algebra.proofs.Listed.{snoc-length, map-append}
use Rattle.elimination.proofs.Invariant.{uppers-many}
use Rattle.elimination.proofs.Room.{entries-stored, entries-append}
use Rattle.factor_row.specs.Storage.{Holds}
use Rattle.factor_row.specs.declared.pivot_row.Step.{Step}
use Rattle.factor_row.specs.Gathering.{reduction_of}
use Rattle.factor_row.specs.Entries.{entry_lists_of}
use Rattle.factor_row.specs.Taking.{next_upper_row, PivotFound, DependentFound}
use Rattle.factor_row.proofs.Storage.{holds_more}
use Rattle.factor_turn.specs.State.{pivot_rows, pivot_lowers, dependent_lowers, HoldsEnds, State}
use Rattle.factor_turn.specs.Keeping.{KeepReady, Kept}
use Rattle.factor_turn.proofs.EndRows.{ends-pivot, columns-ready, values-ready, ends-dependent}

-- ---- how many entries

entries-one : (row : List ℕ) → entries (row ∷ []) ≡ length (nonzeros row)
unfolding entries
entries-one row = omega arith

pub entries-values : (rows : List (List ℕ)) → entries rows ≡ length (compress rows).vals
entries-values rows = entries-stored rows ∙ (compress-lengths rows).paired

-- ---- one pivot more, and one dependent row more

module _ (p m : ℕ) (f : Found) (i c : ℕ) (cs : List ℕ) (w : Vector) where
  abbrev after : Found
  after = with_pivot p m f i c cs w

  pub rank-more : rank_of after ≡ suc (rank_of f)
  unfolding with_pivot
  rank-more = snoc-length f.pivots _

  rows_more : pivot_rows after ≡ pivot_rows f ++ (i ∷ [])
  unfolding with_pivot pivot_rows
  rows_more = map-append (λ q. q.row) f.pivots _

  pub columns-more : columns_of after ≡ columns_of f ++ (c ∷ [])
  unfolding with_pivot columns_of
  columns-more = map-append (λ q. q.column) f.pivots _

  pub uppers-more : uppers_of after ≡ uppers_of f ++ (next_upper_row p m c w ∷ [])
  unfolding with_pivot uppers_of next_upper_row
  uppers-more = map-append (λ q. q.upper) f.pivots _

  lowers-more : pivot_lowers after ≡ pivot_lowers f ++ ((cs ++ (w c ∷ [])) ∷ [])
  unfolding with_pivot pivot_lowers
  lowers-more = map-append (λ q. q.lower) f.pivots _

  dependents-same : dependent_lowers after ≡ dependent_lowers f
  unfolding with_pivot dependent_lowers
  dependents-same = refl

dependents-more : (f : Found) (i : ℕ) (cs : List ℕ) → dependent_lowers (with_dependent f i cs) ≡ dependent_lowers f ++ (cs ∷ [])
unfolding with_dependent dependent_lowers
dependents-more f i cs = map-append (λ d. d.lower) f.dependents (record { row = i; lower = cs } ∷ [])

pub lowers-split : (f : Found) → lowers_of f ≡ pivot_lowers f ++ dependent_lowers f
unfolding lowers_of pivot_lowers dependent_lowers
lowers-split f = refl

pub lowers-entries : (f : Found) → entries (lowers_of f) ≡ entries (pivot_lowers f) + entries (dependent_lowers f)
lowers-entries f = ap entries (lowers-split f) ∙ entries-append (pivot_lowers f) (dependent_lowers f)

pub pivots-less : (f : Found) → entries (pivot_lowers f) ≤ entries (lowers_of f)
pivots-less f = omega (arith, lowers-entries f)

module _ (p m : ℕ) (f : Found) (i c : ℕ) (cs : List ℕ) (w : Vector) where
  pub pivot-U-entries : entries (uppers_of (with_pivot p m f i c cs w)) ≡ entries (uppers_of f) + length (nonzeros (next_upper_row p m c w))
  pivot-U-entries =
      ap entries (uppers-more p m f i c cs w)
      ∙ entries-append (uppers_of f) (next_upper_row p m c w ∷ [])
      ∙ ap (λ (n : ℕ). entries (uppers_of f) + n) (entries-one (next_upper_row p m c w))

  pub pivot-lower-entries : entries (pivot_lowers (with_pivot p m f i c cs w)) ≡ entries (pivot_lowers f) + length (nonzeros (cs ++ (w c ∷ [])))
  pivot-lower-entries =
      ap entries (lowers-more p m f i c cs w)
      ∙ entries-append (pivot_lowers f) ((cs ++ (w c ∷ [])) ∷ [])
      ∙ ap (λ (n : ℕ). entries (pivot_lowers f) + n) (entries-one (cs ++ (w c ∷ [])))

  pub pivot-L-entries : entries (lowers_of (with_pivot p m f i c cs w)) ≡ entries (lowers_of f) + length (nonzeros (cs ++ (w c ∷ [])))
  pivot-L-entries =
      omega (
        arith,
        lowers-entries (with_pivot p m f i c cs w),
        ap entries (dependents-same p m f i c cs w),
        lowers-entries f,
        pivot-lower-entries,
      )

pub dependent-L-entries : (f : Found) (i : ℕ) (cs : List ℕ) → entries (lowers_of (with_dependent f i cs)) ≡ entries (lowers_of f) + length (nonzeros cs)
unfolding with_dependent pivot_lowers
dependent-L-entries f i cs =
    omega (
      arith,
      lowers-entries (with_dependent f i cs),
      ap entries (dependents-more f i cs) ∙ entries-append (dependent_lowers f) (cs ∷ []),
      entries-one cs,
      lowers-entries f,
    )

-- ---- the state after a row that is taken

pub lowers-many : (f : Found) → length (pivot_lowers f) ≡ rank_of f
unfolding pivot_lowers
lowers-many f = length-map f.pivots (λ q. q.lower)

pub dependents-many : (f : Found) → length (dependent_lowers f) ≡ length f.dependents
unfolding dependent_lowers
dependents-many f = length-map f.dependents (λ d. d.lower)

-- the front of an order, with one number more
front-more : (xs l : List ℕ) (r x : ℕ) → take r l ≡ xs → r < length l → take (r + 1) (set l r x) ≡ xs ++ (x ∷ [])
front-more xs l r x e h = ap (λ (k : ℕ). take k (set l r x)) (add-one r) ∙ take-suc-set l r x h ∙ ap (λ (z : List ℕ). z ++ (x ∷ [])) e

module _ (f : Found) (R C : List ℕ) (L U : Compressed) (r at l total d : ℕ) (s : State f R C L U r at l total d) (L-paired : length L.cols ≡ length L.vals) (U-paired : length U.cols ≡ length U.vals) where
  -- it is a pivot row
  module _ (p m i c : ℕ) (cs : List ℕ) (w : Vector) (lc lv uc uv : List ℕ) (step : Step)
      (t : PivotFound p at l total (reduction_of m cs w c) (entry_lists_of L.cols L.vals U.cols U.vals) (entry_lists_of lc lv uc uv) step) where
    pub pivot-fits : fits (length L.cols) (length U.cols) (with_pivot p m f i c cs w) ≡ not step.over
    unfolding fits
    pivot-fits =
        ap₂ (λ (a b : ℕ). leb a (length L.cols) && leb b (length U.cols))
        (pivot-L-entries p m f i c cs w ∙ ap (λ (n : ℕ). n + length (nonzeros (cs ++ (w c ∷ [])))) (sym s.L-entries))
        (pivot-U-entries p m f i c cs w ∙ ap (λ (n : ℕ). n + length (nonzeros (next_upper_row p m c w))) (sym s.U-entries))
        ∙ t.fit

    module _ (e : step.over ≡ false) where
      abbrev L-more : ℕ
      L-more = total + length (nonzeros (cs ++ (w c ∷ [])))

      abbrev U-more : ℕ
      U-more = at + length (nonzeros (next_upper_row p m c w))

      L-room : L-more ≤ length L.cols
      L-room = leb-true L-more (length L.cols) (and_left (leb L-more (length L.cols)) (leb U-more (length U.cols)) (t.fit ∙ ap not e))

      U-room : U-more ≤ length U.cols
      U-room = leb-true U-more (length U.cols) (and_right (leb L-more (length L.cols)) (leb U-more (length U.cols)) (t.fit ∙ ap not e))

      upper-after : r + 1 < length U.starts → Holds (uppers_of f ++ (next_upper_row p m c w ∷ [])) step.at (compressed (set U.starts (r + 1) step.at) uc uv)
      upper-after h =
          holds_more (uppers_of f) at U s.upper (next_upper_row p m c w) uc uv at step.at step.at (s.U-entries ∙ entries-values (uppers_of f)) (t.upper e)
          (omega arith) (omega (arith, (t.upper e).place)) (omega (arith, (t.upper e).place, U-room)) (omega (arith, (t.upper e).place, U-room))
          (r + 1) (omega (arith, s.rank, uppers-many f)) h

      lower-after : r + d + 1 < length L.starts → HoldsEnds (pivot_lowers f ++ ((cs ++ (w c ∷ [])) ∷ [])) (dependent_lowers f) (compressed (set L.starts (r + 1) step.l) lc lv)
      lower-after h =
          ends-pivot (pivot_lowers f) (dependent_lowers f) L s.lower (cs ++ (w c ∷ [])) lc lv l step.l (s.pivot-entries ∙ entries-values (pivot_lowers f)) (t.lower e) L-paired
          (omega (arith, L-room, s.L-entries, lowers-entries f, entries-values (pivot_lowers f), entries-values (dependent_lowers f)))
          (r + 1) (omega (arith, s.rank, lowers-many f)) (omega (arith, s.rank, s.dependents, lowers-many f, dependents-many f))

      pub pivot-state : r < length R → r < length C → r + d + 1 < length L.starts → r + 1 < length U.starts
          → State (with_pivot p m f i c cs w) (set R r i) (set C r c) (compressed (set L.starts (r + 1) step.l) lc lv) (compressed (set U.starts (r + 1) step.at) uc uv) (r + 1) step.at step.l step.total d
      unfolding with_pivot
      pivot-state hR hC hL hU =
          record {
            rank = omega (arith, s.rank, rank-more p m f i c cs w);
            U-entries = (t.upper e).place ∙ omega (arith, s.U-entries, pivot-U-entries p m f i c cs w);
            pivot-entries = (t.lower e).place ∙ omega (arith, s.pivot-entries, pivot-lower-entries p m f i c cs w);
            L-entries = t.count e ∙ omega (arith, s.L-entries, pivot-L-entries p m f i c cs w);
            rows = front-more (pivot_rows f) R r i s.rows hR ∙ sym (rows_more p m f i c cs w);
            columns = front-more (columns_of f) C r c s.columns hC ∙ sym (columns-more p m f i c cs w);
            upper = rw (uppers-more p m f i c cs w) (upper-after hU);
            lower = rw (lowers-more p m f i c cs w, dependents-same p m f i c cs w) (lower-after hL);
            dependents = s.dependents;
          }

  -- it is dependent
  module _ (m i c : ℕ) (cs : List ℕ) (w : Vector) (lc lv uc uv : List ℕ) (step : Step) (t : DependentFound at l total (reduction_of m cs w c) (entry_lists_of L.cols L.vals U.cols U.vals) (entry_lists_of lc lv uc uv) step)
      (U-fits : at ≤ length U.cols) where
    pub dependent-fits : fits (length L.cols) (length U.cols) (with_dependent f i cs) ≡ not step.over
    unfolding fits with_dependent uppers_of
    dependent-fits =
        ap₂ (λ (a b : Bool). a && b)
        (ap (λ (n : ℕ). leb n (length L.cols)) (dependent-L-entries f i cs ∙ ap (λ (n : ℕ). n + length (nonzeros cs)) (sym s.L-entries)) ∙ t.fit)
        (le-leb (entries (uppers_of f)) (length U.cols) (omega (arith, s.U-entries)))
        ∙ and-true (not step.over)
      where
        and-true : (b : Bool) → (b && true) ≡ b
        and-true true = refl
        and-true false = refl

    module _ (e : step.over ≡ false) where
      room : total + length (nonzeros cs) ≤ length L.cols
      room = leb-true (total + length (nonzeros cs)) (length L.cols) (t.fit ∙ ap not e)

      fit : length (compress (pivot_lowers f)).vals + length (compress (dependent_lowers f)).vals + length (nonzeros cs) ≤ length L.cols
      fit = omega (arith, room, s.L-entries, lowers-entries f, entries-values (pivot_lowers f), entries-values (dependent_lowers f))

      abbrev back : ℕ
      back = length lc - (total - step.l)

      lc-long : length lc ≡ length L.cols
      lc-long = ap length (t.lower e).columns ∙ length-sets L.cols l (columns_from 0 cs)

      lv-long : length lv ≡ length L.vals
      lv-long = ap length (t.lower e).values ∙ length-sets L.vals l (nonzeros cs)

      back_is : back ≡ length L.cols - length (compress (dependent_lowers f)).vals
      back_is = omega (arith, lc-long, (t.place e).1, s.pivot-entries, s.L-entries, lowers-entries f, entries-values (dependent_lowers f))

      stored : DenseStored 0 step.l cs L.cols L.vals lc lv (step.l + length (nonzeros cs))
      stored = rw (t.place e).1 (t.lower e)

      place : step.l ≡ length (compress (pivot_lowers f)).vals
      place = (t.place e).1 ∙ s.pivot-entries ∙ entries-values (pivot_lowers f)

      -- its row of L can be kept
      pub dependent-ready : step.total < 2 ^ 32 → r + d + 1 < length L.starts → KeepReady step.l total step.total (d + 1) L.starts lc lv
      dependent-ready small more =
          record {
            low = omega (arith, (t.place e).1, s.pivot-entries, s.L-entries, pivots-less f);
            grown = omega (arith, t.count e);
            room = omega (arith, t.count e, room, lc-long);
            paired = lc-long ∙ L-paired ∙ sym lv-long;
            fits = small;
            some = omega arith;
            starts = omega arith;
            columns = columns-ready (pivot_lowers f) (dependent_lowers f) L s.lower cs lc lv step.l (step.l + length (nonzeros cs)) place stored L-paired fit back back_is (step.total - total) (omega (arith, t.count e));
            values = values-ready (pivot_lowers f) (dependent_lowers f) L s.lower cs lc lv step.l (step.l + length (nonzeros cs)) place stored L-paired fit back back_is (step.total - total) (omega (arith, t.count e));
          }

      pub dependent-state : r + d + 1 < length L.starts → (ls lc' lv' : List ℕ) → Kept step.l total step.total (d + 1) L.starts lc lv ls lc' lv'
          → State (with_dependent f i cs) R C (compressed ls lc' lv') (compressed U.starts uc uv) r step.at step.l step.total (d + 1)
      unfolding with_dependent pivot_rows pivot_lowers columns_of uppers_of
      dependent-state more ls lc' lv' k =
          record {
            rank = s.rank;
            U-entries = (t.place e).0 ∙ s.U-entries;
            pivot-entries = (t.place e).1 ∙ s.pivot-entries;
            L-entries = t.count e ∙ omega (arith, s.L-entries, dependent-L-entries f i cs);
            rows = s.rows;
            columns = s.columns;
            upper = rw ((t.place e).0, (t.upper e).0, (t.upper e).1) s.upper;
            lower = rw (dependents-more f i cs, k.starts, k.columns, k.values)
                (ends-dependent (pivot_lowers f) (dependent_lowers f) L s.lower cs lc lv step.l (step.l + length (nonzeros cs)) place stored L-paired fit back back_is (length L.starts - (d + 1)) (step.total - step.l)
                (omega (arith, s.dependents, dependents-many f)) (omega (arith, s.rank, s.dependents, lowers-many f, dependents-many f))
                (omega (arith, t.count e, (t.place e).1, s.pivot-entries, s.L-entries, lowers-entries f, entries-values (dependent_lowers f))));
            dependents = omega (arith, s.dependents, snoc-length f.dependents (record { row = i; lower = cs }));
          }

-- A row that was taken is a turn of the definition, and the lists hold what it finds.
use mathlib.Core.Path.{◌≡◌, refl, sym, ap, ◌∙◌}
use mathlib.Core.Bool.{Bool, true, false, cond, not, true≢false}
use mathlib.Core.List.{List}
use Prim.Native.Nat.{ℕ, ◌+◌, ◌^◌, ◌≤◌, ◌<◌}
use native.Mathlib.Decide.{ℕ_discrete, dec_lt}
use native.Mathlib.Omega.{arith}
use lib.Dec.{eqb}
use lib.ListN.{length, get_or, take, set}
use borrow.Author.Tests.{le-leb, lt-leb}
use Rattle.lists.specs.Filled.{zeros}
use Rattle.lists.specs.Tabulate.{tabulate}
use Rattle.lists.specs.Tests.{first}
use Rattle.algebra.specs.Matrix.{Vector, Matrix, vector}
use Rattle.algebra.specs.Reduction.{reduced, multiples}
use Rattle.sparse.specs.Matrix.{Compressed, compressed, matrix}
use Rattle.sparse.specs.Set.{Storage, storage_of}
use Rattle.sparse.proofs.DenseLaws.{compress-matrix}
use Rattle.elimination.specs.Pivots.{Found, uppers_of, upper_of, rank_of, reduced_by, multiples_by, with_pivot, with_dependent, placed_row, turn}
use Rattle.elimination.specs.Factoring.{lowers_of, entries, fits}
use Rattle.factor_row.specs.declared.pivot_row.Step.{Step}
use Rattle.factor_row.specs.Gathering.{Reduction, reduction_by, cut}
use Rattle.factor_row.specs.Entries.{entry_lists_of}
use Rattle.factor_row.specs.Taking.{RowFound}
use Rattle.factor_row.proofs.TakenRows.{first-most}
use Rattle.factor_turn.specs.State.{pivot_lowers, State, turn_of, AfterTurn}
use Rattle.factor_turn.specs.Turning.{turn_reduction, progress_of}
use Rattle.factor_turn.specs.Keeping.{KeepReady, Kept}
use Rattle.factor_turn.specs.declared.turn.Progress.{Progress}
use Rattle.algebra.proofs.Listed.{snoc-length}
use Rattle.factor_turn.proofs.Steps.{rank-more, pivot-U-entries, pivot-lower-entries, pivot-fits, pivot-state, dependent-L-entries, dependent-fits, dependent-ready, dependent-state}
use Rattle.factor_turn.proofs.Readiness.{cut-found}

module _ (p m : ℕ) (A : Matrix) (i : ℕ) (paired : Bool) (f : Found) (R C : List ℕ) (L U : Compressed) (r at l total d : ℕ) (s : State f R C L U r at l total d)
    (pair : paired ≡ true → get_or C r 0 < m) where
  abbrev cut_u : Compressed
  cut_u = cut r at U.starts U.cols U.vals

  abbrev reduction : Bool → Reduction
  reduction b = turn_reduction p m b r C cut_u (A i)

  -- ---- the reduction by the lists is that by the rows found

  matrices : matrix cut_u ≡ upper_of f
  matrices = ap matrix (cut-found f R C L U r at l total d s) ∙ (λ t k j. compress-matrix (uppers_of f) k j t)

  reduced-found : (k : ℕ) → reduced p (vector (take r C)) (matrix cut_u) k (A i) ≡ reduced_by p f k (A i)
  reduced-found k t = reduced p (vector (s.columns t)) (matrices t) k (A i)

  multiples-found : (reduction_by p m r (take r C) cut_u (A i)).multiples ≡ multiples_by p f (A i)
  unfolding multiples multiples_by
  multiples-found t = tabulate (s.rank t) (λ k. reduced p (vector (s.columns t)) (matrices t) k (A i) (vector (s.columns t) k))

  remainder-found : (reduction_by p m r (take r C) cut_u (A i)).remainder ≡ reduced_by p f (rank_of f) (A i)
  remainder-found t = reduced p (vector (s.columns t)) (matrices t) (s.rank t) (A i)

  -- ---- the turn

  abbrev cs : List ℕ
  cs = (reduction paired).multiples

  abbrev w : Vector
  w = (reduction paired).remainder

  abbrev c : ℕ
  c = (reduction paired).column

  abbrev found : Found
  found = turn p m A f (turn_of paired i (get_or C r 0))

  turn-placed : found ≡ placed_row p m f i cs w c
  unfolding turn placed_row
  turn-placed = go paired pair
    where
      go : (b : Bool) → (b ≡ true → get_or C r 0 < m) → turn p m A f (turn_of b i (get_or C r 0)) ≡ placed_row p m f i (reduction b).multiples (reduction b).remainder (reduction b).column
      go true h =
          ap (λ (k : ℕ). with_pivot p m f i (get_or C r 0) (zeros k) (A i)) (sym s.rank)
          ∙ ap (λ (b : Bool). cond b (with_dependent f i (zeros r)) (with_pivot p m f i (get_or C r 0) (zeros r) (A i))) (sym (lt-leb m (get_or C r 0) (h refl)))
      go false h = λ t. placed_row p m f i (sym multiples-found t) (sym remainder-found t) (first m (λ j. eqb (sym remainder-found t j) 0))

  column-most : c ≤ m
  column-most = go paired pair
    where
      go : (b : Bool) → (b ≡ true → get_or C r 0 < m) → (reduction b).column ≤ m
      go true h = omega (arith, h refl)
      go false h = first-most m (λ j. eqb ((reduction_by p m r (take r C) cut_u (A i)).remainder j) 0)

  pub dependent-is : m ≤ c → found ≡ with_dependent f i cs
  unfolding placed_row
  dependent-is h = turn-placed ∙ ap (λ (b : Bool). cond b (with_dependent f i cs) (with_pivot p m f i c cs w)) (le-leb m c h)

  pub pivot-is : c < m → found ≡ with_pivot p m f i c cs w
  unfolding placed_row
  pivot-is h = turn-placed ∙ ap (λ (b : Bool). cond b (with_dependent f i cs) (with_pivot p m f i c cs w)) (lt-leb m c h)

  -- ---- after it

  module _ (L-paired : length L.cols ≡ length L.vals) (U-paired : length U.cols ≡ length U.vals) (U-fits : at ≤ length U.cols)
      (lc lv uc uv work : List ℕ) (step : Step)
      (t : RowFound p at l total (reduction paired) (entry_lists_of L.cols L.vals U.cols U.vals) (entry_lists_of lc lv uc uv) work step) where
    taken-fits : fits (length L.cols) (length U.cols) found ≡ not step.over
    taken-fits = go (dec_lt c m)
      where
        go : Dec (c < m) → fits (length L.cols) (length U.cols) found ≡ not step.over
        go (yes h) = ap (fits (length L.cols) (length U.cols)) (pivot-is h) ∙ pivot-fits f R C L U r at l total d s L-paired U-paired p m i c cs w lc lv uc uv step (t.pivot h)
        go (no h) =
            ap (fits (length L.cols) (length U.cols)) (dependent-is (omega arith))
            ∙ dependent-fits f R C L U r at l total d s L-paired U-paired m i c cs w lc lv uc uv step (t.dependent (omega arith)) U-fits

    -- it did not fit
    pub turned-over : step.over ≡ true → (h : Storage) (to : Progress) → to.over ≡ true → AfterTurn found m (length L.cols) (length U.cols) h to
    turned-over e h to q = record { fit = taken-fits ∙ ap not (e ∙ sym q); state = λ z. absurd (true≢false (sym q ∙ z)); clear = λ z. absurd (true≢false (sym q ∙ z)) }

    -- it is dependent, and its row of L is kept
    module _ (e : step.over ≡ false) (h : step.column ≡ m) (more : r + d + 1 < length L.starts) where
      past : m ≤ c
      past = omega (arith, h, t.column e)

      -- what is to be kept
      pub count-found : step.total ≡ entries (lowers_of found)
      count-found = (t.dependent past).count e ∙ omega (arith, s.L-entries, ap (λ (g : Found). entries (lowers_of g)) (dependent-is past) ∙ dependent-L-entries f i cs)

      pub dependents-found : rank_of found + length found.dependents ≡ r + d + 1
      unfolding with_dependent
      dependents-found = ap (λ (g : Found). rank_of g + length g.dependents) (dependent-is past) ∙ omega (arith, s.rank, s.dependents, snoc-length f.dependents (record { row = i; lower = cs }))

      pub keep-found : step.total < 2 ^ 32 → KeepReady step.l total step.total (d + 1) L.starts lc lv
      keep-found small = dependent-ready f R C L U r at l total d s L-paired U-paired m i c cs w lc lv uc uv step (t.dependent past) U-fits e small more

      pub turned-kept : (ls lc' lv' : List ℕ) → Kept step.l total step.total (d + 1) L.starts lc lv ls lc' lv'
          → AfterTurn found m (length L.cols) (length U.cols) (storage_of R C (compressed ls lc' lv') (compressed U.starts uc uv) work) (progress_of step r (d + 1))
      turned-kept ls lc' lv' k =
          record {
            fit = taken-fits ∙ ap not e;
            state = λ z. rw (dependent-is past) (dependent-state f R C L U r at l total d s L-paired U-paired m i c cs w lc lv uc uv step (t.dependent past) U-fits e more ls lc' lv' k);
            clear = λ z. t.clear e;
          }

    -- it is a pivot row, which is entered
    module _ (e : step.over ≡ false) (h : ¬ (step.column ≡ m)) where
      pub column-inside : step.column < m
      column-inside = go (ℕ_discrete c m)
        where
          go : Dec (c ≡ m) → step.column < m
          go (yes q) = absurd (h (t.column e ∙ q))
          go (no q) = omega (arith, column-most, t.column e)

      inside : c < m
      inside = omega (arith, column-inside, t.column e)

      -- what is to be entered
      pub rank-found : r + 1 ≡ rank_of found
      rank-found = omega (arith, s.rank, ap rank_of (pivot-is inside) ∙ rank-more p m f i c cs w)

      pub at-found : step.at ≡ entries (uppers_of found)
      at-found = ((t.pivot inside).upper e).place ∙ omega (arith, s.U-entries, ap (λ (g : Found). entries (uppers_of g)) (pivot-is inside) ∙ pivot-U-entries p m f i c cs w)

      pub l-found : step.l ≡ entries (pivot_lowers found)
      l-found = ((t.pivot inside).lower e).place ∙ omega (arith, s.pivot-entries, ap (λ (g : Found). entries (pivot_lowers g)) (pivot-is inside) ∙ pivot-lower-entries p m f i c cs w)

      pub turned-enters : r < length R → r < length C → r + d + 1 < length L.starts → r + 1 < length U.starts
          → AfterTurn found m (length L.cols) (length U.cols) (storage_of (set R r i) (set C r step.column) (compressed (set L.starts (r + 1) step.l) lc lv) (compressed (set U.starts (r + 1) step.at) uc uv) work)
          (progress_of step (r + 1) d)
      turned-enters hR hC hL hU =
          record {
            fit = taken-fits ∙ ap not e;
            state = λ q. rw (pivot-is inside, t.column e) (pivot-state f R C L U r at l total d s L-paired U-paired p m i c cs w lc lv uc uv step (t.pivot inside) e hR hC hL hU);
            clear = λ q. t.clear e;
          }

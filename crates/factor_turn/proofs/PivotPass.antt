-- The first pass as a loop over the schedule: what holds before turn k, that each turn keeps it, and what it comes to.
use mathlib.Core.Path.{◌≡◌, refl, sym, ap, ap₂, ◌∙◌, subst, subst₂}
use mathlib.Core.Bool.{Bool, true, false, not, true≢false}
use mathlib.Core.List.{List, ◌∷◌}
use mathlib.Core.Option.{some}
use Prim.Native.Nat.{ℕ, suc, ◌+◌, ◌-◌, ◌≤◌, ◌<◌}
use native.Mathlib.Nat.{add-zero}
use native.Mathlib.Omega.{arith}
use lib.Dec.{leb, ltb}
use lib.ListN.{length, get_or, take, drop}
use lib.Seq.{length-take-le, get_or-take, get_or-drop, drop-drop}
use borrow.Author.Tests.{leb-true, ltb-true, lt-ltb}
use Rattle.lists.specs.Filled.{zeros}
use Rattle.lists.proofs.Bools.{and_left, and_right}
use Rattle.algebra.specs.Matrix.{Vector, Matrix, Distinct, vector}
use Rattle.sparse.specs.Matrix.{Compressed, matrix}
use Rattle.sparse.specs.Set.{storage_of}
use Rattle.elimination.specs.Pairs.{pair_rows, pair_columns}
use Rattle.elimination.specs.Pivots.{Found, Turn, columns_of, uppers_of, rank_of, with_pivot, with_dependent, pair, other, turn, reduced_by, multiples_by}
use Rattle.elimination.specs.Factoring.{schedule, nothing, row_of_turn, entries, lowers_of, fits, first_over}
use Rattle.algebra.proofs.Listed.{snoc-length}
use Rattle.algebra.proofs.Completion.{completed}
use Rattle.elimination.specs.Invariant.{Invariant}
use Rattle.elimination.proofs.Invariant.{nothing-holds}
use Rattle.elimination.proofs.Turns.{other-either}
use Rattle.factor_row.proofs.Storage.{holds-none}
use Rattle.factor_turn.specs.declared.turn.Progress.{Progress}
use Rattle.factor_turn.specs.declared.turn.Pass.{Pass}
use Rattle.factor_turn.specs.State.{pivot_rows, pivot_lowers, dependent_lowers, State, turn_of, AfterTurn}
use Rattle.factor_turn.specs.Turning.{TurnLeaves}
use Rattle.factor_turn.specs.Passing.{pairs_of, Cleared, PassLeaves}
use Rattle.factor_turn.specs.Needs.{Lent, PairAt, TurnReady, PassReady}
use Rattle.factor_turn.proofs.EndRows.{ends-clear}
use Rattle.factor_turn.proofs.Steps.{rank-more}
use Rattle.factor_turn.proofs.Readiness.{turn_holds}
use Rattle.factor_turn.proofs.Schedules.{Remaining, remaining-starts, remaining-turn, remaining-over, remaining-none, rows_are, columns-are, pairs-many, schedule-turn, schedule-ends}

-- ---- before the first turn

pub nothing-state : (R C : List ℕ) (L U : Compressed) → 0 < length L.starts → 0 < length U.starts → Cleared L → Cleared U → State nothing R C L U 0 0 0 0 0
unfolding entries pivot_rows pivot_lowers dependent_lowers columns_of uppers_of lowers_of
nothing-state R C L U someL someU cL cU =
    record {
      rank = refl;
      U-entries = refl;
      pivot-entries = refl;
      L-entries = refl;
      rows = refl;
      columns = refl;
      upper = holds-none U someU cU.starts cU.columns cU.values;
      lower = ends-clear L someL cL.starts cL.columns cL.values;
      dependents = refl;
    }

-- ---- the pivots and the dependent rows after a turn

abbrev pub rows_found : Found → ℕ
rows_found f = rank_of f + length f.dependents

pivot-rows : (p m : ℕ) (f : Found) (i c : ℕ) (cs : List ℕ) (w : Vector) → rows_found (with_pivot p m f i c cs w) ≡ suc (rows_found f)
unfolding with_pivot
pivot-rows p m f i c cs w = omega (arith, rank-more p m f i c cs w)

dependent-rows : (f : Found) (i : ℕ) (cs : List ℕ) → rows_found (with_dependent f i cs) ≡ suc (rows_found f)
unfolding with_dependent
dependent-rows f i cs = omega (arith, snoc-length f.dependents (record { row = i; lower = cs }))

pub rows-turn : (p m : ℕ) (A : Matrix) (f : Found) (paired : Bool) (i c : ℕ) → rows_found (turn p m A f (turn_of paired i c)) ≡ suc (rows_found f)
unfolding turn
rows-turn p m A f true i c = pivot-rows p m f i c (zeros (rank_of f)) (A i)
rows-turn p m A f false i c =
    other-either p m A f i (λ g. rows_found g ≡ suc (rows_found f)) (dependent-rows f i (multiples_by p f (A i))) (λ c. pivot-rows p m f i c (multiples_by p f (A i)) (reduced_by p f (rank_of f) (A i)))

rank-pair : (p m : ℕ) (A : Matrix) (f : Found) (paired : Bool) (i c : ℕ) → paired ≡ true → rank_of (turn p m A f (turn_of paired i c)) ≡ suc (rank_of f)
unfolding turn
rank-pair p m A f true i c e = rank-more p m f i c (zeros (rank_of f)) (A i)
rank-pair p m A f false i c e = absurd (true≢false (sym e))

row-of-turn : (paired : Bool) (i c : ℕ) → row_of_turn (turn_of paired i c) ≡ i
row-of-turn true i c = refl
row-of-turn false i c = refl

-- the rows and entries that a Found has fit
pub room : (roomL roomU : ℕ) (f : Found) → fits roomL roomU f ≡ true → (entries (lowers_of f) ≤ roomL) × (entries (uppers_of f) ≤ roomU)
unfolding fits
room roomL roomU f e = (
  leb-true (entries (lowers_of f)) roomL (and_left (leb (entries (lowers_of f)) roomL) (leb (entries (uppers_of f)) roomU) e),
  leb-true (entries (uppers_of f)) roomU (and_right (leb (entries (lowers_of f)) roomL) (leb (entries (uppers_of f)) roomU) e),
)

-- the lists are as long as they were
pub record SameLengths (R₀ C₀ : List ℕ) (L₀ U₀ : Compressed) (w₀ R C : List ℕ) (L U : Compressed) (w : List ℕ) : Type 0 where
  pub R-long : length R ≡ length R₀
  pub C-long : length C ≡ length C₀
  pub ls-long : length L.starts ≡ length L₀.starts
  pub lc-long : length L.cols ≡ length L₀.cols
  pub lv-long : length L.vals ≡ length L₀.vals
  pub us-long : length U.starts ≡ length U₀.starts
  pub uc-long : length U.cols ≡ length U₀.cols
  pub uv-long : length U.vals ≡ length U₀.vals
  pub w-long : length w ≡ length w₀

pub same-lent : (p : ℕ) (A : Compressed) (R₀ C₀ : List ℕ) (L₀ U₀ : Compressed) (w₀ R C : List ℕ) (L U : Compressed) (w : List ℕ)
    → SameLengths R₀ C₀ L₀ U₀ w₀ R C L U w → w ≡ zeros (length w) → Lent p A (storage_of R₀ C₀ L₀ U₀ w₀) → Lent p A (storage_of R C L U w)
same-lent p A R₀ C₀ L₀ U₀ w₀ R C L U w e z h =
    record {
      prime = h.prime;
      formed = rw e.w-long h.formed;
      rows = omega (arith, h.rows, e.R-long);
      columns = omega (arith, h.columns, e.C-long, e.w-long);
      L-starts = omega (arith, h.L-starts, e.ls-long, e.R-long);
      U-starts = omega (arith, h.U-starts, e.us-long, e.R-long);
      L-paired = omega (arith, h.L-paired, e.lc-long, e.lv-long);
      U-paired = omega (arith, h.U-paired, e.uc-long, e.uv-long);
      n-narrow = omega (arith, h.n-narrow, e.R-long);
      m-narrow = omega (arith, h.m-narrow, e.w-long);
      small = rw (e.R-long, e.w-long) h.small;
      clear = z;
    }

-- ---- before turn k

module _ (p s : ℕ) (A : Compressed) (R₀ C₀ : List ℕ) (L₀ U₀ : Compressed) (w₀ : List ℕ) where
  abbrev n : ℕ
  n = length R₀

  abbrev m : ℕ
  m = length w₀

  abbrev all : List Turn
  all = schedule n (pairs_of s R₀ C₀)

  pub record Passing (R C : List ℕ) (L U : Compressed) (w : List ℕ) (k : ℕ) (from : Progress) : Type 0 where
    pub inside : k ≤ n
    pub same : SameLengths R₀ C₀ L₀ U₀ w₀ R C L U w
    pub clear : w ≡ zeros (length w)
    pub rows : from.r + from.d ≤ k
    pub L-room : from.total ≤ length L₀.cols
    pub U-room : from.at ≤ length U₀.cols
    pub ahead : drop k R ≡ drop k R₀
    pub pairs : k ≤ s → (from.r ≡ k) × (C ≡ C₀)
    pub f : Found
    pub holds : Invariant p n m (matrix A) f
    pub state : State f R C L U from.r from.at from.l from.total from.d
    pub left : Remaining p m (matrix A) (length L₀.cols) (length U₀.cols) nothing all f (drop k all)

  module _ (h : PassReady p s A (storage_of R₀ C₀ L₀ U₀ w₀)) where
    pub passing-starts : Passing R₀ C₀ L₀ U₀ w₀ 0 (record { over = false; r = 0; at = 0; l = 0; total = 0; d = 0 })
    passing-starts =
        record {
          inside = omega arith;
          same = record { R-long = refl; C-long = refl; ls-long = refl; lc-long = refl; lv-long = refl; us-long = refl; uc-long = refl; uv-long = refl; w-long = refl };
          clear = h.lent.clear;
          rows = omega arith;
          L-room = omega arith;
          U-room = omega arith;
          ahead = refl;
          pairs = λ b. (refl, refl);
          f = nothing;
          holds = nothing-holds p n m (matrix A);
          state = nothing-state R₀ C₀ L₀ U₀ (omega (arith, h.lent.L-starts)) (omega (arith, h.lent.U-starts)) h.L-clear h.U-clear;
          left = remaining-starts p m (matrix A) (length L₀.cols) (length U₀.cols) nothing all;
        }

    -- R₀ is an order of the rows
    pair-rows-distinct : Distinct (length (take s R₀)) n (vector (take s R₀))
    pair-rows-distinct =
        subst₂ (λ (k : ℕ) (l : List ℕ). Distinct k n (vector l)) (pairs-many s R₀ C₀ h.rows_inside h.columns-inside ∙ sym (length-take-le s R₀ h.rows_inside))
        (rows_are s R₀ C₀ h.rows_inside h.columns-inside) h.pairs.rows

    row_below : (k : ℕ) → k < n → get_or R₀ k 0 < n
    row_below k b = subst (λ (l : List ℕ). get_or l k 0 < n) (sym h.order) ((completed (take s R₀) n pair-rows-distinct).below k b)

    -- the pair at place k
    pair-at : (k : ℕ) → k < s → PairAt m (matrix A) (get_or R₀ k 0) k C₀
    pair-at k b =
        record {
          inside = omega (arith, h.columns-inside, h.lent.columns);
          column = subst (λ (c : ℕ). c < m) (column-is k b) (h.pairs.columns k many);
          here = λ z. h.pairs.here k many (ap₂ (matrix A) (row_is k b) (column-is k b) ∙ z);
          before = λ j g. ap₂ (matrix A) (sym (row_is k b)) (sym (column-is j (omega arith))) ∙ h.pairs.before j k g many;
        }
      where
        many : k < length (pairs_of s R₀ C₀)
        many = omega (arith, pairs-many s R₀ C₀ h.rows_inside h.columns-inside)

        row_is : (k : ℕ) → k < s → vector (pair_rows (pairs_of s R₀ C₀)) k ≡ get_or R₀ k 0
        row_is k b = ap (λ (l : List ℕ). get_or l k 0) (rows_are s R₀ C₀ h.rows_inside h.columns-inside) ∙ get_or-take s R₀ k 0 b

        column-is : (k : ℕ) → k < s → vector (pair_columns (pairs_of s R₀ C₀)) k ≡ get_or C₀ k 0
        column-is k b = ap (λ (l : List ℕ). get_or l k 0) (columns-are s R₀ C₀ h.rows_inside h.columns-inside) ∙ get_or-take s C₀ k 0 b

    module _ (R C : List ℕ) (L U : Compressed) (w : List ℕ) (k : ℕ) (from : Progress) (t : Passing R C L U w k from) (b : k < n) where
      -- the row is still the schedule's
      pub row_is : get_or R k 0 ≡ get_or R₀ k 0
      row_is =
          ap (λ (j : ℕ). get_or R j 0) (sym (add-zero k))
          ∙ sym (get_or-drop k R 0 0)
          ∙ ap (λ (x : List ℕ). get_or x 0 0) t.ahead
          ∙ get_or-drop k R₀ 0 0
          ∙ ap (λ (j : ℕ). get_or R₀ j 0) (add-zero k)

      pub passing-ready : TurnReady p (get_or R k 0) (ltb k s) A (storage_of R C L U w) from
      passing-ready =
          record {
            lent = same-lent p A R₀ C₀ L₀ U₀ w₀ R C L U w t.same t.clear h.lent;
            row = omega (arith, row_is, row_below k b, t.same.R-long);
            more = omega (arith, t.rows, t.same.R-long);
            L-room = omega (arith, t.L-room, t.same.lc-long);
            U-room = omega (arith, t.U-room, t.same.uc-long);
            f = t.f;
            holds = rw (t.same.R-long, t.same.w-long) t.holds;
            state = t.state;
            pair = λ e. let g : k < s = ltb-true k s e in let q = t.pairs (omega arith) in
                rw (t.same.w-long, row_is, q.0, q.1) (pair-at k g);
          }

      abbrev taken : Turn
      taken = turn_of (ltb k s) (get_or R k 0) (get_or C from.r 0)

      -- it is turn k of the schedule
      next-turn : drop k all ≡ taken ∷ drop (k + 1) all
      next-turn =
          schedule-turn s R₀ C₀ h.rows_inside h.columns-inside h.order k b
          ∙ ap (λ (x : Turn). x ∷ drop (k + 1) all) (go (ltb k s) refl)
        where
          go : (x : Bool) → ltb k s ≡ x → turn_of x (get_or R₀ k 0) (get_or (take s C₀) k 0) ≡ turn_of x (get_or R k 0) (get_or C from.r 0)
          go true e =
              let g : k < s = ltb-true k s e in
              let q = t.pairs (omega arith) in
              ap₂ (λ (i c : ℕ). pair (record { row = i; column = c })) (sym row_is) (get_or-take s C₀ k 0 g ∙ (λ j. get_or (sym q.1 j) (sym q.0 j) 0))
          go false e = ap other (sym row_is)

      module _ (R' C' : List ℕ) (L' U' : Compressed) (w' : List ℕ) (to : Progress)
          (d : TurnLeaves p (get_or R k 0) (ltb k s) A (storage_of R C L U w) (storage_of R' C' L' U' w') from to) where
        abbrev found : Found
        found = turn p m (matrix A) t.f taken

        turned : AfterTurn found m (length L₀.cols) (length U₀.cols) (storage_of R' C' L' U' w') to
        turned =
            rw (t.same.w-long, t.same.lc-long, t.same.uc-long) at (d.turned t.f t.state)

        pub passing-over : to.over ≡ true → first_over p m (matrix A) (length L₀.cols) (length U₀.cols) nothing all ≡ some (get_or R k 0)
        passing-over e =
            remaining-over p m (matrix A) (length L₀.cols) (length U₀.cols) nothing all t.f (drop k all) t.left taken (drop (k + 1) all) next-turn (turned.fit ∙ ap not e)
            ∙ ap some (row-of-turn (ltb k s) (get_or R k 0) (get_or C from.r 0))

        module _ (e : to.over ≡ false) (same' : SameLengths R₀ C₀ L₀ U₀ w₀ R' C' L' U' w') where
          after : State found R' C' L' U' to.r to.at to.l to.total to.d
          after = turned.state e

          later : drop (k + 1) R' ≡ drop (k + 1) R₀
          later =
              further R' ∙ ap (drop (k - from.r)) d.ahead ∙ sym (further R)
              ∙ sym (drop-drop 1 k R) ∙ ap (drop 1) t.ahead ∙ drop-drop 1 k R₀
            where
              further : (x : List ℕ) → drop (k + 1) x ≡ drop (k - from.r) (drop (from.r + 1) x)
              further x = ap (λ (j : ℕ). drop j x) (let q : k + 1 ≡ from.r + 1 + (k - from.r) = omega (arith, t.rows) in q) ∙ sym (drop-drop (k - from.r) (from.r + 1) x)

          pub passing-turn : Passing R' C' L' U' w' (k + 1) to
          unfolding passing-ready
          passing-turn =
              record {
                inside = omega arith;
                same = same';
                clear = turned.clear e ∙ ap zeros (sym same'.w-long);
                rows = omega (arith, after.rank, after.dependents, t.rows, t.state.rank, t.state.dependents, rows-turn p m (matrix A) t.f (ltb k s) (get_or R k 0) (get_or C from.r 0));
                L-room = omega (arith, after.L-entries, room (length L₀.cols) (length U₀.cols) found (turned.fit ∙ ap not e));
                U-room = omega (arith, after.U-entries, room (length L₀.cols) (length U₀.cols) found (turned.fit ∙ ap not e));
                ahead = later;
                pairs = λ g. let q = t.pairs (omega arith) in let x : ltb k s ≡ true = lt-ltb k s (omega arith) in
                    (omega (arith, after.rank, t.state.rank, q.0, rank-pair p m (matrix A) t.f (ltb k s) (get_or R k 0) (get_or C from.r 0) x), d.columns x ∙ q.1);
                f = found;
                holds = rw (t.same.R-long, t.same.w-long) at (turn_holds p (get_or R k 0) (ltb k s) A R C L U w from passing-ready);
                state = after;
                left = remaining-turn p m (matrix A) (length L₀.cols) (length U₀.cols) nothing all t.f (drop k all) t.left taken (drop (k + 1) all) next-turn (turned.fit ∙ ap not e);
              }

    pub passing-ends : (R C : List ℕ) (L U : Compressed) (w : List ℕ) (k : ℕ) (to : Pass) → Passing R C L U w k to.progress → to.progress.over ≡ false → n ≤ k
        → PassLeaves p s m A (storage_of R₀ C₀ L₀ U₀ w₀) (storage_of R C L U w) to
    passing-ends R C L U w k to t going b =
        let q = remaining-none p m (matrix A) (length L₀.cols) (length U₀.cols) nothing all t.f (drop k all) t.left (schedule-ends s R₀ C₀ h.rows_inside h.columns-inside h.order k b) in
        record {
          stopped = λ e. absurd (true≢false (sym e ∙ going));
          fitted = λ e. q.1;
          state = λ e. rw q.0 t.state;
          clear = λ e. t.clear ∙ ap zeros t.same.w-long;
        }

pub passed_over : (p s m : ℕ) (A : Compressed) (R₀ C₀ : List ℕ) (L₀ U₀ : Compressed) (w₀ R C : List ℕ) (L U : Compressed) (w : List ℕ) (to : Pass) → to.progress.over ≡ true
    → first_over p m (matrix A) (length L₀.cols) (length U₀.cols) nothing (schedule (length R₀) (pairs_of s R₀ C₀)) ≡ some to.stop
    → PassLeaves p s m A (storage_of R₀ C₀ L₀ U₀ w₀) (storage_of R C L U w) to
passed_over p s m A R₀ C₀ L₀ U₀ w₀ R C L U w to e q =
    record {
      stopped = λ z. q;
      fitted = λ z. absurd (true≢false (sym e ∙ z));
      state = λ z. absurd (true≢false (sym e ∙ z));
      clear = λ z. absurd (true≢false (sym e ∙ z));
    }

-- lengths kept by one call, and by those before it
pub same_then : (R₀ C₀ : List ℕ) (L₀ U₀ : Compressed) (w₀ R C : List ℕ) (L U : Compressed) (w R' C' : List ℕ) (L' U' : Compressed) (w' : List ℕ) → SameLengths R₀ C₀ L₀ U₀ w₀ R C L U w
    → length R' ≡ length R → length C' ≡ length C → length L'.starts ≡ length L.starts → length L'.cols ≡ length L.cols → length L'.vals ≡ length L.vals
    → length U'.starts ≡ length U.starts → length U'.cols ≡ length U.cols → length U'.vals ≡ length U.vals → length w' ≡ length w → SameLengths R₀ C₀ L₀ U₀ w₀ R' C' L' U' w'
same_then R₀ C₀ L₀ U₀ w₀ R C L U w R' C' L' U' w' s a b c d e f g h i =
    record {
      R-long = a ∙ s.R-long;
      C-long = b ∙ s.C-long;
      ls-long = c ∙ s.ls-long;
      lc-long = d ∙ s.lc-long;
      lv-long = e ∙ s.lv-long;
      us-long = f ∙ s.us-long;
      uc-long = g ∙ s.uc-long;
      uv-long = h ∙ s.uv-long;
      w-long = i ∙ s.w-long;
    }

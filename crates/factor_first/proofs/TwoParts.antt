-- The pass in its two parts: where the first stops, the lists are ready for the second, and what the second finds is what the schedule finds.
use mathlib.Core.Path.{◌≡◌, sym, ap, ◌∙◌, subst}
use mathlib.Core.Bool.{Bool, true, false}
use mathlib.Core.List.{List, ◌++◌, map}
use mathlib.Core.Option.{some}
use Prim.Native.Nat.{ℕ, ◌+◌, ◌-◌, ◌≤◌, ◌<◌}
use native.Mathlib.Omega.{arith}
use lib.Dec.{ltb}
use lib.ListN.{length, get_or, take, drop, length-map, length-drop}
use lib.Seq.{length-take-le, get_or-drop, drop_at}
use borrow.Author.Tests.{lt-ltb}
use Rattle.lists.specs.Filled.{zeros}
use Rattle.sparse.specs.Matrix.{Compressed, matrix}
use Rattle.sparse.specs.Set.{storage_of}
use Rattle.elimination.specs.Pivots.{Found, Turn, pair, other, turns}
use Rattle.lists.specs.Rest.{rest}
use Rattle.elimination.specs.Factoring.{schedule, nothing, first_over}
use Rattle.algebra.proofs.Completion.{rest-each}
use Rattle.factor_turn.specs.declared.turn.Progress.{Progress}
use Rattle.factor_turn.specs.declared.turn.Pass.{Pass}
use Rattle.factor_turn.specs.State.{StateOf}
use Rattle.factor_turn.specs.Passing.{pairs_of, PassLeaves}
use Rattle.factor_turn.specs.Turning.{TurnLeaves}
use Rattle.factor_turn.specs.Needs.{TurnReady, PassReady}
use Rattle.factor_turn.proofs.Schedules.{rows_are, pairs-many}
use Rattle.factor_turn.proofs.PivotPass.{Passing, passing-ready, passing-over, passing-turn, passing-ends, SameLengths, same-lent}
use Rattle.factor_turn.specs.Others.{RowsFrom, TurnsLeave, RowsTaken, RestReady}
use Rattle.factor_first.specs.Needs.{RemainingReady}

-- ---- the rows after the pairs

module _ (s : ℕ) (R C : List ℕ) (hR : s ≤ length R) (hC : s ≤ length C) (order : R ≡ take s R ++ rest (take s R) (length R)) where
  -- they are the others, rising
  rows-after : drop s R ≡ rest (take s R) (length R)
  rows-after = ap (drop s) order ∙ drop_at (take s R) (rest (take s R) (length R)) s (length-take-le s R hR)

  rows-below : (k : ℕ) → s ≤ k → k < length R → get_or (drop s R) (k - s) 0 < length R
  rows-below k low b =
      subst (λ (l : List ℕ). get_or l (k - s) 0 < length R) (sym rows-after)
      (rest-each (take s R) (length R) (k - s) (omega (arith, ap length rows-after, length-drop s R)))

  -- their turns are those of the schedule after the pairs
  turns-after : drop s (schedule (length R) (pairs_of s R C)) ≡ map other (drop s R)
  unfolding schedule
  turns-after =
      drop_at (map pair (pairs_of s R C)) (map other (rest (map (λ q. q.row) (pairs_of s R C)) (length R))) s (length-map (pairs_of s R C) pair ∙ pairs-many s R C hR hC)
      ∙ ap (λ (l : List ℕ). map other (rest l (length R))) (rows_are s R C hR hC)
      ∙ ap (map other) (sym rows-after)

-- ---- the pairs

module _ (p s : ℕ) (A : Compressed) (R₀ C₀ : List ℕ) (L₀ U₀ : Compressed) (w₀ : List ℕ) (h : PassReady p s A (storage_of R₀ C₀ L₀ U₀ w₀))
    (R C : List ℕ) (L U : Compressed) (w : List ℕ) (k : ℕ) (from : Progress) (t : Passing p s A R₀ C₀ L₀ U₀ w₀ R C L U w k from) (b : k < s) where
  row_inside : k < length R₀
  row_inside = omega (arith, h.rows_inside)

  pub pair-ready : TurnReady p (get_or R k 0) true A (storage_of R C L U w) from
  pair-ready = subst (λ (x : Bool). TurnReady p (get_or R k 0) x A (storage_of R C L U w) from) (lt-ltb k s b) (passing-ready p s A R₀ C₀ L₀ U₀ w₀ h R C L U w k from t row_inside)

  module _ (R' C' : List ℕ) (L' U' : Compressed) (w' : List ℕ) (to : Progress) (d : TurnLeaves p (get_or R k 0) true A (storage_of R C L U w) (storage_of R' C' L' U' w') from to) where
    leaves : TurnLeaves p (get_or R k 0) (ltb k s) A (storage_of R C L U w) (storage_of R' C' L' U' w') from to
    leaves = subst (λ (x : Bool). TurnLeaves p (get_or R k 0) x A (storage_of R C L U w) (storage_of R' C' L' U' w') from to) (sym (lt-ltb k s b)) d

    pub pair-over : to.over ≡ true → first_over p (length w₀) (matrix A) (length L₀.cols) (length U₀.cols) nothing (schedule (length R₀) (pairs_of s R₀ C₀)) ≡ some (get_or R k 0)
    pair-over = passing-over p s A R₀ C₀ L₀ U₀ w₀ h R C L U w k from t row_inside R' C' L' U' w' to leaves

    pub pair_turn : to.over ≡ false → SameLengths R₀ C₀ L₀ U₀ w₀ R' C' L' U' w' → Passing p s A R₀ C₀ L₀ U₀ w₀ R' C' L' U' w' (k + 1) to
    pair_turn = passing-turn p s A R₀ C₀ L₀ U₀ w₀ h R C L U w k from t row_inside R' C' L' U' w' to leaves

-- ---- from the first part to the second

module _ (p s : ℕ) (A : Compressed) (R₀ C₀ : List ℕ) (L₀ U₀ : Compressed) (w₀ : List ℕ) (h : PassReady p s A (storage_of R₀ C₀ L₀ U₀ w₀))
    (R C : List ℕ) (L U : Compressed) (w : List ℕ) (k : ℕ) (from : Progress) (t : Passing p s A R₀ C₀ L₀ U₀ w₀ R C L U w k from) (going : from.over ≡ false) where
  abbrev m : ℕ
  m = length w₀

  abbrev all : List Turn
  all = schedule (length R₀) (pairs_of s R₀ C₀)

  -- every row is taken
  pub all-taken : length R₀ ≤ k → (stop : ℕ) → PassLeaves p s m A (storage_of R₀ C₀ L₀ U₀ w₀) (storage_of R C L U w) (record { stop = stop; progress = from })
  all-taken b stop = passing-ends p s A R₀ C₀ L₀ U₀ w₀ h R C L U w k (record { stop = stop; progress = from }) t going b

  module _ (low : k ≤ s) (done : s ≤ k) where
    at-pairs : k ≡ s
    at-pairs = omega arith

    same-pairs : (from.r ≡ k) × (C ≡ C₀)
    same-pairs = t.pairs low

    ahead : drop s R ≡ drop s R₀
    ahead = subst (λ (j : ℕ). drop j R ≡ drop j R₀) at-pairs t.ahead

    below : (j : ℕ) → s ≤ j → j < length R → get_or R j 0 < length R
    below j g c = omega (arith, row, rows-below s R₀ C₀ h.rows_inside h.columns-inside h.order j g (omega (arith, t.same.R-long)), t.same.R-long)
      where
        row : get_or R j 0 ≡ get_or (drop s R₀) (j - s) 0
        row =
            ap (λ (i : ℕ). get_or R i 0) (let q : j ≡ s + (j - s) = omega arith in q)
            ∙ sym (get_or-drop s R (j - s) 0)
            ∙ ap (λ (x : List ℕ). get_or x (j - s) 0) ahead

    rows-from : RowsFrom p A (storage_of R C L U w) from t.f
    rows-from = record { holds = rw (t.same.R-long, t.same.w-long) t.holds; state = t.state }

    rest-ready : RestReady p s A (storage_of R C L U w) from
    rest-ready =
        record {
          going = going;
          lent = same-lent p A R₀ C₀ L₀ U₀ w₀ R C L U w t.same t.clear h.lent;
          rank = same-pairs.0 ∙ at-pairs;
          alone = omega (arith, same-pairs.0, t.rows);
          rows_inside = omega (arith, h.rows_inside, t.same.R-long);
          L-room = omega (arith, t.L-room, t.same.lc-long);
          U-room = omega (arith, t.U-room, t.same.uc-long);
          below = below;
          f = t.f;
          held = rows-from;
        }

    pub remaining-ready : RemainingReady p s A (storage_of R C L U w) from
    remaining-ready =
        record {
          ready = rest-ready;
          narrow = omega (arith, h.narrow, t.same.w-long);
          columns-inside = omega (arith, h.columns-inside, t.same.C-long);
          columns-order = λ a b. rw same-pairs.1 (h.columns-order (omega (arith, t.same.R-long)) (omega (arith, t.same.w-long)));
        }

    -- the turns that the second part takes are those that remain
    rest-is : map other (drop s R) ≡ drop k all
    rest-is = ap (map other) ahead ∙ sym (turns-after s R₀ C₀ h.rows_inside h.columns-inside h.order) ∙ ap (λ (j : ℕ). drop j all) (sym at-pairs)

    pub rows_taken : (R' C' : List ℕ) (L' U' : Compressed) (w' : List ℕ) (to : Pass) → RowsTaken p s A (storage_of R C L U w) (storage_of R' C' L' U' w') from to
        → PassLeaves p s m A (storage_of R₀ C₀ L₀ U₀ w₀) (storage_of R' C' L' U' w') to
    rows_taken R' C' L' U' w' to d =
        record {
          stopped = λ e. sym over-is ∙ taken.stopped e;
          fitted = λ e. sym over-is ∙ taken.fitted e;
          state = λ e. subst (λ (g : Found). StateOf g (storage_of R' C' L' U' w') to.progress) found-is (taken.state e);
          clear = λ e. d.clear e ∙ ap zeros t.same.w-long;
        }
      where
        taken : TurnsLeave p (length w) (matrix A) (length L.cols) (length U.cols) t.f (map other (drop s R)) (storage_of R' C' L' U' w') to
        taken = d.found t.f rows-from

        over-is : first_over p (length w) (matrix A) (length L.cols) (length U.cols) t.f (map other (drop s R)) ≡ first_over p m (matrix A) (length L₀.cols) (length U₀.cols) nothing all
        over-is = (λ i. first_over p (t.same.w-long i) (matrix A) (t.same.lc-long i) (t.same.uc-long i) t.f (rest-is i)) ∙ t.left.over

        found-is : turns p (length w) (matrix A) t.f (map other (drop s R)) ≡ turns p m (matrix A) nothing all
        found-is = (λ i. turns p (t.same.w-long i) (matrix A) t.f (rest-is i)) ∙ t.left.found

-- One turn: what it leaves.
--   turn_reduction p m paired r C U y         what the row y comes to: as it stands, with column C[r], where it is paired, otherwise reduced by r rows of U
--   progress_of step r d                      how far the factoring is after a turn that came to `step`, with r pivots and d dependent rows then
--   Settled step i from m ..                 after a turn that came to `step` row i is entered as the next pivot row, or its row of L is kept, where its column is none of
--                                            the m; the orders are as they were where its entries did not fit
--   TurnLeaves p i paired A h₀ h from to     row i was taken, as the definition's turn says; the rows ahead in R are as they were, and C too where it was paired
use Rattle.std.specs.Prelude.{ℕ, ◌+◌, ◌≡◌, Bool, true, false, cond, List, length, get_or, take, drop, set}
use Rattle.lists.specs.Filled.{zeros}
use Rattle.algebra.specs.Matrix.{Vector}
use Rattle.sparse.specs.Matrix.{Compressed, compressed, matrix}
use Rattle.sparse.specs.Set.{Storage}
use Rattle.elimination.specs.Pivots.{Found, turn}
use Rattle.factor_row.specs.declared.pivot_row.Step.{Step}
use Rattle.factor_row.specs.Gathering.{Reduction, reduction_of, reduction_by}
use Rattle.factor_turn.specs.declared.turn.Progress.{Progress}
use Rattle.factor_turn.specs.State.{StateOf, turn_of, AfterTurn}
use Rattle.factor_turn.specs.Keeping.{Kept}

abbrev pub turn_reduction : ℕ → ℕ → Bool → ℕ → List ℕ → Compressed → Vector → Reduction
turn_reduction p m paired r C U y =
    reduction_of m (cond paired (zeros r) (reduction_by p m r (take r C) U y).multiples) (cond paired y (reduction_by p m r (take r C) U y).remainder)
    (cond paired (get_or C r 0) (reduction_by p m r (take r C) U y).column)

abbrev pub progress_of : Step → ℕ → ℕ → Progress
progress_of step r d = record { over = false; r = r; at = step.at; l = step.l; total = step.total; d = d }

pub record Settled (step : Step) (i : ℕ) (from : Progress) (m : ℕ) (R₀ C₀ : List ℕ) (L₀ : Compressed) (us₀ R C : List ℕ) (L : Compressed) (us : List ℕ) (to : Progress) : Type 0 where
  pub over : step.over ≡ true → (to.over ≡ true) × (R ≡ R₀) × (C ≡ C₀)
  pub dependent : step.over ≡ false → step.column ≡ m
      → (to ≡ progress_of step from.r (from.d + 1)) × (R ≡ R₀) × (C ≡ C₀) × Kept step.l from.total step.total (from.d + 1) L₀.starts L₀.cols L₀.vals L.starts L.cols L.vals × (us ≡ us₀)
  pub pivot : step.over ≡ false → ¬ (step.column ≡ m)
      → (to ≡ progress_of step (from.r + 1) from.d) × (R ≡ set R₀ from.r i) × (C ≡ set C₀ from.r step.column)
      × (L ≡ compressed (set L₀.starts (from.r + 1) step.l) L₀.cols L₀.vals) × (us ≡ set us₀ (from.r + 1) step.at)

pub record TurnLeaves (p i : ℕ) (paired : Bool) (A : Compressed) (h₀ h : Storage) (from to : Progress) : Type 0 where
  pub turned : (f : Found) → StateOf f h₀ from
      → AfterTurn (turn p (length h₀.work) (matrix A) f (turn_of paired i (get_or h₀.C from.r 0))) (length h₀.work) (length h₀.L.cols) (length h₀.U.cols) h to
  pub ahead : drop (from.r + 1) h.R ≡ drop (from.r + 1) h₀.R
  pub columns : paired ≡ true → h.C ≡ h₀.C

-- The search for what a row reaches through pivots. A column is stamped with the search's mark when it is reached, and queued once if it is used.
--   Used w j                      column j is used: its cell names a row
--   Wanted own w j                column j is to be stamped: of the searching row's own columns the used ones alone
--   Trail w stamps queue k t      the first t cells of the queue are the used columns with the stamp k, each once
--   TouchReady ..                 what one column needs
--   VisitReady ..                 what visiting the columns of a row needs
--   Visited own row ..            the wanted columns of the row have the stamp, and no other column got it; the queue only grew
--   Passed w stamps k j           column j is used or stamped: no candidate, or one no more
--   NextFit row w stamps k f t    t is the first place of the row from f on whose column is neither used nor stamped, past the row's end where there is none
--   Survivor A n m i ..           r is the column that row i takes, the width where it takes none; no column got another stamp
use Rattle.std.specs.Prelude.{ℕ, ◌≤◌, ◌<◌, ◌≡◌, Bool, false, ◌⊎◌, List, length, get_or}
use Rattle.lists.specs.Tests.{first}
use Rattle.algebra.specs.Matrix.{Distinct, vector}
use Rattle.sparse.specs.Matrix.{Compressed, matrix}
use Rattle.elimination.specs.Selection.{nonzero, unfit}
use Rattle.elimination.specs.Rules.{pivots_to}

abbrev pub Used : List ℕ → ℕ → Type 0
Used w j = ¬ (get_or w j 0 ≡ 0)

abbrev pub Wanted : Bool → List ℕ → ℕ → Type 0
Wanted own w j = (own ≡ false) ⊎ Used w j

pub record Trail (w stamps queue : List ℕ) (mark tail : ℕ) : Type 0 where
  pub stamps-long : length stamps ≡ length w
  pub queue_long : length queue ≡ length w
  pub distinct : Distinct tail (length w) (vector queue)
  pub used : (k : ℕ) → k < tail → Used w (get_or queue k 0)
  pub stamped : (k : ℕ) → k < tail → get_or stamps (get_or queue k 0) 0 ≡ mark
  pub all : (j : ℕ) → j < length w → get_or stamps j 0 ≡ mark → Used w j → (k : ℕ) × (k < tail) × (get_or queue k 0 ≡ j)

pub record TouchReady (w stamps queue : List ℕ) (mark tail j cell : ℕ) : Type 0 where
  pub trail : Trail w stamps queue mark tail
  pub inside : j < length w
  pub cell-is : cell ≡ get_or w j 0

pub record VisitReady (row w stamps queue : List ℕ) (mark tail : ℕ) : Type 0 where
  pub trail : Trail w stamps queue mark tail
  pub inside : (t : ℕ) → t < length row → get_or row t 0 < length w

pub record Visited (own : Bool) (row w stamps₀ queue₀ : List ℕ) (mark tail₀ : ℕ) (stamps queue : List ℕ) (tail : ℕ) : Type 0 where
  pub trail : Trail w stamps queue mark tail
  pub tail-grows : tail₀ ≤ tail
  pub queue-kept : (k : ℕ) → k < tail₀ → get_or queue k 0 ≡ get_or queue₀ k 0
  pub stamped : (t : ℕ) → t < length row → Wanted own w (get_or row t 0) → get_or stamps (get_or row t 0) 0 ≡ mark
  pub kept : (j : ℕ) → (get_or stamps j 0 ≡ get_or stamps₀ j 0) ⊎ ((t : ℕ) × (t < length row) × (get_or row t 0 ≡ j) × Wanted own w j × (get_or stamps j 0 ≡ mark))

-- ---- the choice

abbrev pub Passed : List ℕ → List ℕ → ℕ → ℕ → Type 0
Passed w stamps mark j = Used w j ⊎ (get_or stamps j 0 ≡ mark)

pub record NextFit (row w stamps : List ℕ) (mark from place : ℕ) : Type 0 where
  pub before : (k : ℕ) → k < place → from ≤ k → Passed w stamps mark (get_or row k 0)
  pub here : place < length row → (get_or w (get_or row place 0) 0 ≡ 0) × ¬ (get_or stamps (get_or row place 0) 0 ≡ mark)

pub record Survivor (A : Compressed) (n m i mark : ℕ) (stamps₀ stamps : List ℕ) (r : ℕ) : Type 0 where
  pub lowest : r ≡ first m (unfit (nonzero (matrix A)) (pivots_to A n m i) i)
  pub kept : (j : ℕ) → (get_or stamps j 0 ≡ get_or stamps₀ j 0) ⊎ (get_or stamps j 0 ≡ mark)

-- What the order of the selected pivots starts from and comes to.
--   ArrangeReady p n A w v R C          w and v name the selected pairs; the orders are all zero
--   Arranged n m A s R C                the s structural pivots are in the orders R and C, which are 0 past them
--   DegreesReady p n A w v degrees      what counting the degrees starts from
--   DegreeRowReady p n k A ..           the rows below k are counted, and row k waits
--   MarkReady v degrees ready           what marking the ready rows starts from
--   Stage p n A w v₀ v ..               where the order stands: v names what waits of the selected pairs v₀, with their degrees and the ready rows
--   DegreeFallsReady q degrees ready    some row leads to row q
--   Lowered q low ..                    one row less leads to row q, which becomes ready where none does; r is at most `low`, and at most q where it does
--   ReleaseReady p n k A ..             row k is ready
--   Released p n k A ..                 it waits no more; r is at most k, and of the rows below r none became ready
--   ListReady p n A ..                  what listing the pairs starts from: all wait
--   OrderReady p n A ..                 what putting them in order starts from: w and v name them, and there is a cell for each row
use Rattle.std.specs.Prelude.{ℕ, suc, ◌-◌, ◌≤◌, ◌<◌, ◌≡◌, List, length, get_or, set}
use Rattle.lists.specs.Filled.{zeros, filled}
use Rattle.sparse.specs.Matrix.{Compressed}
use Rattle.elimination.specs.Pairs.{pair_rows, pair_columns}
use Rattle.elimination.specs.Selection.{structural}
use Rattle.factor_names.specs.Named.{Named}
use Rattle.factor_names.specs.Sized.{SmallMatrix}
use Rattle.factor_arrange.specs.Waiting.{waiting_to, waiting, DegreesCounted, Ready}

pub record ArrangeReady (p n : ℕ) (A : Compressed) (w v R C : List ℕ) : Type 0 where
  pub sized : SmallMatrix p n (length w) A
  pub named : Named A n (length w) n w v
  pub R-clear : R ≡ zeros n
  pub C-clear : C ≡ zeros (length w)

pub record Arranged (n m : ℕ) (A : Compressed) (s : ℕ) (R C : List ℕ) : Type 0 where
  pub count : s ≡ length (structural A n m)
  pub rows : R ≡ filled n (pair_rows (structural A n m))
  pub columns : C ≡ filled m (pair_columns (structural A n m))

-- ---- the degrees

pub record DegreesReady (p n : ℕ) (A : Compressed) (w v degrees : List ℕ) : Type 0 where
  pub sized : SmallMatrix p n (length w) A
  pub named : Named A n (length w) n w v
  pub clear : degrees ≡ zeros n

-- the rows below k are counted, and row k waits
pub record DegreeRowReady (p n k : ℕ) (A : Compressed) (w v degrees : List ℕ) : Type 0 where
  pub sized : SmallMatrix p n (length w) A
  pub named : Named A n (length w) n w v
  pub row : k < n
  pub chosen : ¬ (get_or v k 0 ≡ 0)
  pub degrees-long : length degrees ≡ n
  pub before : DegreesCounted A w (waiting_to v k) degrees

pub record MarkReady (v degrees ready : List ℕ) : Type 0 where
  pub degrees-long : length degrees ≡ length v
  pub clear : ready ≡ zeros (length v)

-- ---- the order

-- to a selected row that waits no more none leads
pub record Stage (p n : ℕ) (A : Compressed) (w v₀ v degrees ready : List ℕ) : Type 0 where
  pub sized : SmallMatrix p n (length w) A
  pub named : Named A n (length w) n w v₀
  pub v-long : length v ≡ n
  pub degrees-long : length degrees ≡ n
  pub ready-long : length ready ≡ n
  pub part : (i : ℕ) → ¬ (get_or v i 0 ≡ 0) → get_or v i 0 ≡ get_or v₀ i 0
  pub gone : (c i : ℕ) → get_or w c 0 ≡ suc i → get_or v i 0 ≡ 0 → get_or degrees i 0 ≡ 0
  pub counted : DegreesCounted A w (waiting v) degrees
  pub marked : Ready v degrees ready

pub record DegreeFallsReady (q : ℕ) (degrees ready : List ℕ) : Type 0 where
  pub counted : q < length degrees
  pub marked : q < length ready
  pub led : ¬ (get_or degrees q 0 ≡ 0)

pub record Lowered (q low : ℕ) (degrees₀ ready₀ degrees ready : List ℕ) (r : ℕ) : Type 0 where
  pub less : degrees ≡ set degrees₀ q (get_or degrees₀ q 0 - 1)
  pub still : ¬ (get_or degrees₀ q 0 ≡ 1) → ready ≡ ready₀
  pub freed : get_or degrees₀ q 0 ≡ 1 → (ready ≡ set ready₀ q 1) × (r ≤ q)
  pub least : r ≤ low

-- row k of those that wait is ready
pub record ReleaseReady (p n k : ℕ) (A : Compressed) (w v₀ v degrees ready : List ℕ) : Type 0 where
  pub stage : Stage p n A w v₀ v degrees ready
  pub row : k < n
  pub is-ready : ¬ (get_or ready k 0 ≡ 0)

-- it waits no more; no row below r, which is at most k, became ready
pub record Released (p n k : ℕ) (A : Compressed) (w v₀ v ready₀ degrees ready : List ℕ) (r : ℕ) : Type 0 where
  pub stage : Stage p n A w v₀ (set v k 0) degrees ready
  pub low : (i : ℕ) → i < r → ¬ (get_or ready i 0 ≡ 0) → ¬ (get_or ready₀ i 0 ≡ 0)
  pub inside : r ≤ k

pub record ListReady (p n : ℕ) (A : Compressed) (w v₀ v degrees ready R C : List ℕ) : Type 0 where
  pub stage : Stage p n A w v₀ v degrees ready
  pub same : v ≡ v₀
  pub R-clear : R ≡ zeros n
  pub C-clear : C ≡ zeros (length w)

pub record OrderReady (p n : ℕ) (A : Compressed) (w v waits degrees ready R C : List ℕ) : Type 0 where
  pub pairs : ArrangeReady p n A w v R C
  pub waits-long : length waits ≡ n
  pub degrees-clear : degrees ≡ zeros n
  pub ready-clear : ready ≡ zeros n

-- What the lent lists hold of the pivots found so far.
--   pivot_rows, pivot_lowers f        the rows of the pivots, and their rows of L
--   dependent_lowers f               the rows of L of the dependent rows
--   Ends xs bs l                    the list l begins with xs and ends with bs in reverse, and is zero between
--   HoldsEnds rows others h         the lists of h begin with the stored form of `rows` and end with that of `others`, in reverse, without its first start
--   State f R C L U r at l total d  R and C begin with the pivots' rows and columns, U holds the rows of U, L those of the pivot rows and at its end those of
--                                   the dependent rows; r counts the pivots, `at` the entries of U, l those of L's pivot rows, `total` all of L, and d
--                                   the dependent rows
--   StateOf f h from                the same of lent lists h, and of how far the factoring is
--   turn_of paired i c               the turn of row i: with its column c where it is paired
--   AfterTurn f m roomL roomU h to  what a turn leaves that finds f, where L and U have room for so many entries: unless it does not fit, the state of f
--                                   and a working row of m zeros
use Rattle.std.specs.Prelude.{ℕ, ◌≡◌, Bool, false, not, cond, List, ◌++◌, map, reverse, length, take}
use Rattle.lists.specs.Filled.{zeros}
use Rattle.sparse.specs.Matrix.{Compressed}
use Rattle.sparse.specs.Set.{Storage}
use Rattle.sparse.specs.Dense.{starts_after, compress}
use Rattle.elimination.specs.Pivots.{Found, columns_of, uppers_of, rank_of, Turn, pair, other}
use Rattle.elimination.specs.Factoring.{lowers_of, entries, fits}
use Rattle.factor_row.specs.Storage.{Holds}
use Rattle.factor_turn.specs.declared.turn.Progress.{Progress}

unfoldable pub pivot_rows : Found → List ℕ
pivot_rows f = map (λ q. q.row) f.pivots

unfoldable pub pivot_lowers : Found → List (List ℕ)
pivot_lowers f = map (λ q. q.lower) f.pivots

unfoldable pub dependent_lowers : Found → List (List ℕ)
dependent_lowers f = map (λ d. d.lower) f.dependents

pub record Ends (xs bs l : List ℕ) : Type 0 where
  pub gap : ℕ
  pub whole : l ≡ xs ++ (zeros gap ++ reverse bs)

pub record HoldsEnds (rows others : List (List ℕ)) (h : Compressed) : Type 0 where
  pub starts : Ends (compress rows).starts (starts_after 0 others) h.starts
  pub columns : Ends (compress rows).cols (compress others).cols h.cols
  pub values : Ends (compress rows).vals (compress others).vals h.vals

pub record State (f : Found) (R C : List ℕ) (L U : Compressed) (r at l total d : ℕ) : Type 0 where
  pub rank : r ≡ rank_of f
  pub U-entries : at ≡ entries (uppers_of f)
  pub pivot-entries : l ≡ entries (pivot_lowers f)
  pub L-entries : total ≡ entries (lowers_of f)
  pub rows : take r R ≡ pivot_rows f
  pub columns : take r C ≡ columns_of f
  pub upper : Holds (uppers_of f) at U
  pub lower : HoldsEnds (pivot_lowers f) (dependent_lowers f) L
  pub dependents : d ≡ length f.dependents

abbrev pub StateOf : Found → Storage → Progress → Type 0
StateOf f h from = State f h.R h.C h.L h.U from.r from.at from.l from.total from.d

abbrev pub turn_of : Bool → ℕ → ℕ → Turn
turn_of paired i c = cond paired (pair (record { row = i; column = c })) (other i)

pub record AfterTurn (f : Found) (m roomL roomU : ℕ) (h : Storage) (to : Progress) : Type 0 where
  pub fit : fits roomL roomU f ≡ not to.over
  pub state : to.over ≡ false → StateOf f h to
  pub clear : to.over ≡ false → h.work ≡ zeros m

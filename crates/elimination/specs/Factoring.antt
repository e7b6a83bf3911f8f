-- Factoring (document 01, "Factors" and "Pivot rules"), and the refusal of storage that is too short.
--   schedule n pairs          the pairs first, then the other rows by number
--   nothing                   what is found before the first turn
--   rows_of, lowers_of          the rows in R's order, pivot rows as found and then dependent rows; and their rows of L
--   factored m f              the set from what was found; pivot columns first, then the others rising
--   factor_from, factor        the set from given pairs, and from the structural pivots
--   entries rows              how many entries the stored form of dense rows has
--   row_of_turn                 the row that a turn takes
--   fits roomL roomU f        L and U have no more entries than their rooms
--   first_over ..              the row of the first turn after which they have (refusal 7)
use Rattle.std.specs.Prelude.{ℕ, ◌+◌, Bool, cond, ◌&&◌, List, [], ◌∷◌, ◌++◌, map, length, leb}
use Rattle.std.proofs.Math.Option.{Option, none, some}
use Rattle.algebra.specs.Matrix.{Matrix}
use Rattle.sparse.specs.Matrix.{Compressed, matrix}
use Rattle.sparse.specs.Set.{Set}
use Rattle.sparse.specs.Dense.{nonzeros, compress}
use Rattle.elimination.specs.Structural.{Pair}
use Rattle.lists.specs.Rest.{rest}
use Rattle.elimination.specs.Selection.{structural}
use Rattle.elimination.specs.Pivots.{Found, Turn, pair, other, turn, turns, columns_of, uppers_of, rank_of}

unfoldable pub schedule : ℕ → List Pair → List Turn
schedule n pairs = map pair pairs ++ map other (rest (map (λ q. q.row) pairs) n)

abbrev pub nothing : Found
nothing = record { pivots = []; dependents = [] }

unfoldable pub rows_of : Found → List ℕ
rows_of f = map (λ q. q.row) f.pivots ++ map (λ d. d.row) f.dependents

unfoldable pub lowers_of : Found → List (List ℕ)
lowers_of f = map (λ q. q.lower) f.pivots ++ map (λ d. d.lower) f.dependents

unfoldable pub factored : ℕ → Found → Set
factored m f =
    record {
      r = rank_of f;
      R = rows_of f;
      C = columns_of f ++ rest (columns_of f) m;
      L = compress (lowers_of f);
      U = compress (uppers_of f);
    }

unfoldable pub factor_from : (p n m : ℕ) (A : Matrix) → List Pair → Set
factor_from p n m A pairs = factored m (turns p m A nothing (schedule n pairs))

unfoldable pub factor : (p n m : ℕ) → Compressed → Set
factor p n m A = factor_from p n m (matrix A) (structural A n m)

-- ---- refusal 7

unfoldable pub entries : List (List ℕ) → ℕ
entries [] = 0
entries (row ∷ rows) = length (nonzeros row) + entries rows

abbrev pub row_of_turn : Turn → ℕ
row_of_turn (pair q) = q.row
row_of_turn (other i) = i

unfoldable pub fits : ℕ → ℕ → Found → Bool
fits roomL roomU f = leb (entries (lowers_of f)) roomL && leb (entries (uppers_of f)) roomU

unfoldable pub first_over : (p m : ℕ) (A : Matrix) (roomL roomU : ℕ) → Found → List Turn → Option ℕ
first_over p m A roomL roomU f [] = none
first_over p m A roomL roomU f (t ∷ ts) =
    let later = first_over p m A roomL roomU (turn p m A f t) ts in
    cond (fits roomL roomU (turn p m A f t)) later (some (row_of_turn t))

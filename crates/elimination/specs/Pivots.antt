-- Pivot rule 2: one row of a matrix after another becomes a pivot row or is found dependent, modulo p.
--   Pivot                       a pivot: its row and column, its row of L up to the diagonal, and its row of U
--   Dependent                   a row that is a combination of the pivot rows before it, and its row of L
--   Found                       what is found so far, in order
--   columns_of, upper_of          the pivot columns, and the rows of U as a matrix
--   uppers_of, rank_of            the rows of U as dense rows, and how many there are
--   reduced_by p f k y           y less multiples of the first k rows of U
--   multiples_by                 the multiples that were taken away, one for each pivot
--   with_pivot, with_dependent    what is found, and one pivot row or one dependent row more
--   placed_row                   a row by its remainder: dependent where that is zero, else a pivot row
--   Turn                        what is done next: a structural pivot, or another row
--   turn p m A f t              what is found after that
--   turns                       the same of a list of turns, in order
use Rattle.std.specs.Prelude.{ℕ, ◌*◌, ◌%◌, cond, List, [], ◌∷◌, ◌++◌, map, length, get_or, eqb, leb}
use Rattle.lists.specs.Filled.{zeros}
use Rattle.lists.specs.Tabulate.{tabulate}
use Rattle.lists.specs.Tests.{first}
use Rattle.algebra.specs.Matrix.{Vector, Matrix, vector}
use Rattle.algebra.specs.Reduction.{reduced, multiples}
use Rattle.residue.specs.Inverse.{inv_mod}
use Rattle.elimination.specs.Structural.{Pair}

pub record Pivot : Type 0 where
  pub row : ℕ
  pub column : ℕ
  pub lower : List ℕ
  pub upper : List ℕ

pub record Dependent : Type 0 where
  pub row : ℕ
  pub lower : List ℕ

pub record Found : Type 0 where
  pub pivots : List Pivot
  pub dependents : List Dependent

unfoldable pub columns_of : Found → List ℕ
columns_of f = map (λ q. q.column) f.pivots

unfoldable pub uppers_of : Found → List (List ℕ)
uppers_of f = map (λ q. q.upper) f.pivots

-- the rows of U found so far, as a matrix
abbrev pub upper_of : Found → Matrix
upper_of f = λ k j. get_or (get_or (uppers_of f) k []) j 0

abbrev pub rank_of : Found → ℕ
rank_of f = length f.pivots

-- y less multiples of the first k rows of U (document 01: reduced by the U rows found so far, in order)
abbrev pub reduced_by : ℕ → Found → ℕ → Vector → Vector
reduced_by p f k y = reduced p (vector (columns_of f)) (upper_of f) k y

-- the multiples that were taken away, one for each pivot
unfoldable pub multiples_by : ℕ → Found → Vector → List ℕ
multiples_by p f y = multiples p (rank_of f) (vector (columns_of f)) (upper_of f) y

-- row i becomes a pivot row at column c, where its remainder w has the value w c
unfoldable pub with_pivot : ℕ → ℕ → Found → ℕ → ℕ → List ℕ → Vector → Found
with_pivot p m f i c cs w =
    record {
      pivots = f.pivots ++ (record { row = i; column = c; lower = cs ++ (w c ∷ []); upper = tabulate m (λ j. inv_mod p (w c) * w j % p) } ∷ []);
      dependents = f.dependents;
    }

unfoldable pub with_dependent : Found → ℕ → List ℕ → Found
with_dependent f i cs = record { pivots = f.pivots; dependents = f.dependents ++ (record { row = i; lower = cs } ∷ []) }

-- row i by its remainder w, of which c is the lowest-numbered column that is not 0, or m where all are 0
unfoldable pub placed_row : ℕ → ℕ → Found → ℕ → List ℕ → Vector → ℕ → Found
placed_row p m f i cs w c = cond (leb m c) (with_dependent f i cs) (with_pivot p m f i c cs w)

pub data Turn : Type 0 where
  pair : Pair → Turn
  other : ℕ → Turn

unfoldable pub turn : (p m : ℕ) (A : Matrix) → Found → Turn → Found
turn p m A f (pair q) = with_pivot p m f q.row q.column (zeros (rank_of f)) (A q.row)
turn p m A f (other i) =
    placed_row p m f i (multiples_by p f (A i)) (reduced_by p f (rank_of f) (A i)) (first m (λ j. eqb (reduced_by p f (rank_of f) (A i) j) 0))

unfoldable pub turns : (p m : ℕ) (A : Matrix) → Found → List Turn → Found
turns p m A f [] = f
turns p m A f (t ∷ ts) = turns p m A (turn p m A f t) ts

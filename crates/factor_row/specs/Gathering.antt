-- The row of L of a row of the matrix: the multiples of the rows of U that its reduction takes away.
--   Reduction, reduction_of               what a row of `width` columns comes to: the multiples of U's rows that are taken away from it, what remains of it, and its pivot
--                                        column, `width` where nothing remains
--   reduction_by p m r C U y              that of the row y, by r rows of U and their pivot columns C: its own pivot column is the lowest that is not 0
--   as_it_stands m r c y                   nothing is taken away by the r rows of U: the row y is taken with its column c
--   cut r at us uc uv                    the lists of r rows of U with `at` entries, cut to their lengths
--   StandsFor p m w row                  the m cells of the working row stand for the residues w
--   RowGathered p l total t ..           the multiples are stored at place l, where L has `total` entries so far, and the working row stands for the remainder, with cells
--                                        below p * p, unless they do not fit
use Rattle.std.specs.Prelude.{ℕ, ◌+◌, ◌*◌, ◌%◌, ◌<◌, ◌≡◌, false, not, List, leb, eqb, length, get_or, take}
use Rattle.lists.specs.Filled.{zeros}
use Rattle.lists.specs.Tests.{first}
use Rattle.algebra.specs.Matrix.{Vector, vector}
use Rattle.algebra.specs.Reduction.{reduced, multiples}
use Rattle.sparse.specs.Row.{Below}
use Rattle.sparse.specs.Matrix.{Compressed, compressed, matrix}
use Rattle.sparse.specs.Dense.{nonzeros}
use Rattle.sparse.specs.Storing.{DenseStored}
use Rattle.factor_reduce.specs.declared.gather.Gathered.{Gathered}

pub record Reduction : Type 0 where
  pub width : ℕ
  pub multiples : List ℕ
  pub remainder : Vector
  pub column : ℕ

abbrev pub reduction_of : ℕ → List ℕ → Vector → ℕ → Reduction
reduction_of m cs w c = record { width = m; multiples = cs; remainder = w; column = c }

abbrev pub reduction_by : ℕ → ℕ → ℕ → List ℕ → Compressed → Vector → Reduction
reduction_by p m r C U y =
    reduction_of m (multiples p r (vector C) (matrix U) y) (reduced p (vector C) (matrix U) r y) (first m (λ j. eqb (reduced p (vector C) (matrix U) r y j) 0))

abbrev pub as_it_stands : ℕ → ℕ → ℕ → Vector → Reduction
as_it_stands m r c y = reduction_of m (zeros r) y c

abbrev pub cut : ℕ → ℕ → List ℕ → List ℕ → List ℕ → Compressed
cut r at us uc uv = compressed (take (r + 1) us) (take at uc) (take at uv)

pub record StandsFor (p m : ℕ) (w : Vector) (row : List ℕ) : Type 0 where
  pub long : length row ≡ m
  pub cells : (j : ℕ) → j < m → get_or row j 0 % p ≡ w j

pub record RowGathered (p l total : ℕ) (t : Reduction) (lc₀ lv₀ lc lv work : List ℕ) (g : Gathered) : Type 0 where
  pub fit : leb (total + length (nonzeros t.multiples)) (length lc₀) ≡ not g.over
  pub stored : g.over ≡ false → DenseStored 0 l t.multiples lc₀ lv₀ lc lv g.next
  pub remainder : g.over ≡ false → StandsFor p t.width t.remainder work
  pub below : g.over ≡ false → Below (p * p) work

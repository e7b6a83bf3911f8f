-- `count_row` meets its contract; the loop's invariant is `Passed`: the pivots to which row k leads by its first t columns are counted. Assumes nothing.
use mathlib.Core.Path.{◌≡◌}
use lib.ListN.{length}
use Rattle.sparse.specs.Matrix.{compressed, matrix, row_of}
use Rattle.elimination.specs.Selection.{nonzero}
use Rattle.factor_arrange.proofs.Counting.{Passed}
use Rattle.factor_arrange.proofs.degrees.count_row.Given as goal

abbrev pub invariant-loop-j : goal.invariant-loop-j
invariant-loop-j l = (length l.degrees ≡ l.n) × Passed (nonzero (matrix (compressed l.starts l.cols l.vals))) l.k l.work (row_of l.starts l.k l.cols) l.j-index l.initial.degrees l.degrees

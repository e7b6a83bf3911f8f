-- `name_rows` meets its contract; the loop's invariant is `Naming`. Assumes nothing.
use lib.ListN.{length}
use Rattle.sparse.specs.Matrix.{compressed}
use Rattle.factor_select.proofs.Cells.{Naming}
use Rattle.factor_select.proofs.name_rows.Given as goal

abbrev pub invariant-loop-c : goal.invariant-loop-c
invariant-loop-c l = Naming (compressed l.starts l.cols l.vals) l.n (length l.work) l.chosen l.c

-- `lowest_gap` meets its contract; the loop's invariant is `Searching`: the best of the positions below i. Assumes nothing.
use lib.ListN.{length}
use Rattle.algebra.specs.Matrix.{vector}
use Rattle.sparse.specs.Matrix.{matrix}
use Rattle.answer_slots.specs.Solving.{gap_from}
use Rattle.answer_slots.proofs.GapSearch.{Searching}
use Rattle.answer_slots.proofs.gaps.lowest_gap.Given as goal

abbrev pub invariant-loop-i : goal.invariant-loop-i
invariant-loop-i l = Searching (length l.h) (vector l.ro) (gap_from l.q.p (vector l.ro) (matrix l.l) (vector l.h) l.t) l.i l.best

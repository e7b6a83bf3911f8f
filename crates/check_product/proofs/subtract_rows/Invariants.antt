use Prim.Native.Nat.{◌+◌, ◌*◌}
use Rattle.sparse.specs.Matrix.{matrix}
use Rattle.sparse.specs.WorkingRow.{growth}
use Rattle.sparse.proofs.Subtraction.{Combining}
use Rattle.check_product.proofs.subtract_rows.Given as goal

abbrev pub invariant-loop-t : goal.invariant-loop-t
invariant-loop-t l = Combining l.q.p (l.q.p * l.q.p + l.t * growth l.q.p) (matrix l.u) l.row.cols l.row.vals l.initial.work l.work l.t

use mathlib.Core.Bool.{true}
use Rattle.sparse.specs.Matrix.{row_of}
use Rattle.check_product.specs.Sweep.{Among}
use Rattle.check_product.proofs.SweepLaws.{Sweeping}
use Rattle.check_product.proofs.sweep.sweep_rows.Given as goal

abbrev pub invariant-loop-t : goal.invariant-loop-t
invariant-loop-t l = Sweeping l.q.p l.ks (λ k. Among (row_of l.u.starts k l.u.cols)) true l.initial.work l.work l.zero l.t

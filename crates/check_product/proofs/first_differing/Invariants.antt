use lib.ListN.{length}
use Rattle.algebra.specs.Matrix.{vector}
use Rattle.sparse.specs.Matrix.{matrix}
use Rattle.pluq.specs.Judge.{agrees}
use Rattle.check_product.proofs.Rows.{Scanning}
use Rattle.check_product.proofs.first_differing.Given as goal

abbrev pub invariant-loop-i : goal.invariant-loop-i
invariant-loop-i l = Scanning l.n (agrees l.q.p (length l.initial.work) l.r (matrix l.plan) (vector l.ro) (matrix l.l) (matrix l.u)) l.initial.work l.work l.i

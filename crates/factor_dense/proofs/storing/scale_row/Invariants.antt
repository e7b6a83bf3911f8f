-- `scale_row` meets its contract, cell after cell. Assumes nothing.
use Rattle.factor_dense.proofs.StoringSteps.{Scaling}
use Rattle.factor_dense.proofs.storing.scale_row.Given as goal

abbrev pub invariant-loop-l : goal.invariant-loop-l
invariant-loop-l l = Scaling l.q.p l.c l.fn.row l.out l.l

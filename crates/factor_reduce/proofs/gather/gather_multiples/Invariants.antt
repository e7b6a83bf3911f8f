-- `gather_multiples` meets its contract; the loop's invariant is `Gathering`. Assumes nothing.
use Rattle.sparse.specs.Matrix.{compressed}
use Rattle.factor_reduce.proofs.Gathering.{Gathering}
use Rattle.factor_reduce.proofs.gather.gather_multiples.Given as goal

abbrev pub invariant-loop-k : goal.invariant-loop-k
invariant-loop-k l = Gathering l.q.p l.co (compressed l.us l.uc l.uv) l.l l.limit l.initial.work l.initial.lc l.initial.lv l.work l.lc l.lv l.next l.k

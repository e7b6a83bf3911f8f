-- `find_others` meets its contract; the invariant is `Taking`: the lists hold what the turns so far find, each pivot column has its place, and the turns that
-- remain end as all of them do. Assumes nothing.
use Rattle.sparse.specs.Matrix.{compressed}
use Rattle.factor_others.proofs.OtherPass.{Taking}
use Rattle.factor_others.proofs.rows.find_others.Given as goal

abbrev pub invariant-loop-k : goal.invariant-loop-k
invariant-loop-k l = Taking l.q.p l.s (compressed l.starts l.cols l.vals) l.initial.ro l.initial.co (compressed l.initial.ls l.initial.lc l.initial.lv) (compressed l.initial.us l.initial.uc l.initial.uv) l.initial.work l.initial.progress l.place l.ro l.co (compressed l.ls l.lc l.lv) (compressed l.us l.uc l.uv) l.work l.k l.progress

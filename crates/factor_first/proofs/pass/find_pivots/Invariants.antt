-- `find_pivots` meets its contract; the invariant is `Passing`: the lists hold what the turns so far find, and the turns that remain end as the whole
-- schedule does. After the pairs `find_rest` takes those that remain. Assumes nothing.
use mathlib.Core.Path.{◌≡◌}
use mathlib.Core.Bool.{false}
use Rattle.sparse.specs.Matrix.{compressed}
use Rattle.factor_turn.proofs.PivotPass.{Passing}
use Rattle.factor_first.proofs.pass.find_pivots.Given as goal

abbrev pub invariant-loop-k : goal.invariant-loop-k
invariant-loop-k l = Passing l.q.p l.s (compressed l.starts l.cols l.vals) l.initial.ro l.initial.co (compressed l.initial.ls l.initial.lc l.initial.lv) (compressed l.initial.us l.initial.uc l.initial.uv) l.initial.work l.ro l.co (compressed l.ls l.lc l.lv) (compressed l.us l.uc l.uv) l.work l.k l.progress
    × (l.progress.over ≡ false)

-- `closed_others` meets its contract; the loop's invariant is `Counting`: the first t columns are counted. Assumes nothing.
use Prim.Native.Nat.{◌≤◌}
use native.Mathlib.Omega.{arith}
use Rattle.answer_open.proofs.CountLaws.{at_most, counting-turn, counting-ends}
use Rattle.answer_open.proofs.count.closed_others.Goals as goal

pub overflow_add-found : goal.overflow_add-found
overflow_add-found c = let h : c.closed_at-found.result ≤ 1 = rw c.closed_at-found.ensures (at_most _ _ _) in omega arith

pub loop-t-preserved : goal.loop-t-preserved
loop-t-preserved c = let l = c.loop-t in counting-turn _ _ _ l.found l.t c.at-c.result c.closed_at-found.result (omega arith) c.at-c.ensures.value c.closed_at-found.ensures l.invariant

pub returns : goal.returns
returns c = let l = c.loop-t in counting-ends _ _ _ l.found l.t (omega arith) l.invariant

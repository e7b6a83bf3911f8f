-- `reduce` meets its contract; the loop's invariant is `Collecting`: the working row is reduced by the first k rows. Assumes nothing.
use Prim.Native.Nat.{◌<◌}
use mathlib.Core.Path.{◌≡◌, ◌∙◌}
use native.Mathlib.Omega.{arith}
use lib.ListN.{length, get_or}
use Rattle.answer_question.proofs.ReduceLoop.{collecting-starts, collecting-turn}
use Rattle.answer_question.proofs.reduce.reduce.Goals as goal

pub loop-k-init : goal.loop-k-init
loop-k-init c = collecting-starts _ _ _ _ _ c.requires.ready.small

pub loop-k-preserved : goal.loop-k-preserved
loop-k-preserved c =
    let l = c.loop-k in
    let place : c.index-c.result ≡ get_or c.args.co.now l.k 0 = c.index-c.ensures ∙ c.at.ensures.value in
    let column : c.index-c.result < length l.work =
    omega (arith, place, l.invariant.row.long, c.requires.ready.places l.k (omega (arith, c.requires.ready.order))) in
    collecting-turn c.args.q.p _ _ _ _ l.multiples _ _ _ l.k c.index-c.result c.reduce_by_row.result
    c.requires.ready.positive (omega arith) c.requires.room place column c.reduce_by_row.ensures l.invariant

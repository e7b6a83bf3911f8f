-- `settle` meets its contract; the loop's invariant is `Settling`: the pivot cells of the rows from k on are filled. Assumes nothing.
use Prim.Native.Nat.{◌-◌}
use mathlib.Core.Path.{◌≡◌, ◌∙◌}
use native.Mathlib.Omega.{arith}
use lib.ListN.{get_or}
use Rattle.answer_slots.proofs.SettleLoop.{settling-turn, settling-ends}
use Rattle.answer_slots.proofs.settle.settle.Goals as goal

pub loop-k-preserved : goal.loop-k-preserved
loop-k-preserved c =
    let l = c.loop-k in
    let place : c.index-c.result ≡ get_or c.args.co.now (l.k - 1) 0 = c.index-c.ensures ∙ c.at.ensures.value in
    settling-turn c.args.q.p _ _ _ _ l.s l.k c.lacking_value.result c.index-c.result c.requires.ready.positive (omega arith) (place)
    (omega (arith, place, l.invariant.long, l.invariant.inside, c.requires.ready.order, c.requires.ready.places (l.k - 1) (omega (arith, l.invariant.inside, c.requires.ready.order))))
    c.lacking_value.ensures l.invariant

pub returns : goal.returns
returns c = let l = c.loop-k in settling-ends _ _ _ _ _ l.s l.k (omega arith) l.invariant

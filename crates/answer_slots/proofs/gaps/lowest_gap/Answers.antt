-- `lowest_gap` meets its contract; the loop's invariant is `Searching`: the best of the positions below i. Assumes nothing.
use native.Mathlib.Omega.{arith}
use Rattle.answer_slots.proofs.GapSearch.{search-ends}
use Rattle.answer_slots.proofs.gaps.lowest_gap.Goals as goal

pub returns : goal.returns
returns c =
    let l = c.loop-i in
    search-ends c.args.q.p _ _ _ _ c.requires l.i l.best (omega (arith, c.loop-i-test.false)) l.invariant.lowest

-- `better` meets its contract in its three ways out. Assumes nothing.
use native.Mathlib.Omega.{arith}
use Rattle.answer_slots.proofs.GapTurn.{slot-stays, slot-passes}
use Rattle.answer_slots.proofs.gaps.better.Goals as goal

pub returns-then-slot_at : goal.returns-then-slot_at
returns-then-slot_at c = slot-stays c.args.q.p c.args.i c.args.best _ _ _ _ c.requires _ _ c.slot_at.ensures c.slot_at-2.ensures (omega (arith, c.if-slot_at.true))

pub returns-then-gap-eq0 : goal.returns-then-gap-eq0
returns-then-gap-eq0 c = slot-passes _ _ _ c.args.i _ c.requires.lowest (omega (arith, c.gap.ensures, c.if-gap-eq0.true))

-- `solve` meets its contract: the parts joined. Assumes nothing.
use native.Mathlib.Omega.{arith}
use Rattle.answer_slots.proofs.SlotsJoined.{slots-contradicted, slots-solve, slots-solved}
use Rattle.answer_slots.proofs.solve.solve.Goals as goal

pub returns-then-i-h : goal.returns-then-i-h
returns-then-i-h c =
    let v = c.values_and_gap-i in
    slots-contradicted c.args.q.p _ _ _ _ _ c.requires _ _ v.auto.w v.ensures _ _ _
    (omega (arith, c.if-i-h.true)) c.contradicted_answer.auto.s c.contradicted_answer.ensures

pub solved_answer-requires : goal.solved_answer-requires
solved_answer-requires c = let v = c.values_and_gap-i in slots-solve c.args.q.p _ _ _ _ _ c.requires _ _ v.auto.w v.ensures

pub returns : goal.returns
returns c =
    let v = c.values_and_gap-i in
    slots-solved c.args.q.p _ _ _ _ _ c.requires _ _ v.auto.w v.ensures _ _
    (omega (arith, c.if-i-h.false)) c.solved_answer.auto.w c.solved_answer.ensures

-- `mark_rounds` meets its contract; the loop's invariant is `Witnessing`: only cells of closed columns have changed. Assumes nothing.
use Rattle.answer_open.proofs.WitnessLaws.{Witnessing}
use Rattle.answer_open.proofs.witness.mark_rounds.Given as goal

abbrev pub invariant-loop-rounds : goal.invariant-loop-rounds
invariant-loop-rounds l = Witnessing l.q.p l.r l.left l.u l.co l.initial.values l.values l.initial.marks l.marks

abbrev pub decreases-loop-rounds : goal.decreases-loop-rounds
decreases-loop-rounds l = l.rounds

-- `turn_round` meets its contract; the loop's invariant is `TurningRound`: t numbers at either end are exchanged. Assumes nothing.
use Rattle.factor_turn.proofs.Reversing.{TurningRound}
use Rattle.factor_turn.proofs.keeping.turn_round.Given as goal

abbrev pub invariant-loop-t : goal.invariant-loop-t
invariant-loop-t l = TurningRound l.initial.list l.list l.t

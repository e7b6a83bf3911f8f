-- `turn_lower` meets its contract: each part can be turned round, and the lists are then filled, by laws of `LastTurn`. Assumes nothing.
use Rattle.factor_turn.proofs.LastTurn.{total-most, place-fits, columns-turn, values-turn, starts-move, last_done}
use Rattle.factor_turn.proofs.keeping.turn_lower.Goals as goal

pub overflow_sub-total : goal.overflow_sub-total
overflow_sub-total c = total-most _ _ _ _ _ c.requires.from

pub turn_part-requires : goal.turn_part-requires
turn_part-requires c = columns-turn _ _ _ _ _ c.requires.from

pub overflow_sub-total-2 : goal.overflow_sub-total-2
overflow_sub-total-2 c = total-most _ _ _ _ _ c.requires.from

pub turn_part-requires-2 : goal.turn_part-requires-2
turn_part-requires-2 c = values-turn _ _ _ _ _ c.requires.from

pub overflow_cast-l : goal.overflow_cast-l
overflow_cast-l c = record { fits = place-fits _ _ _ _ _ c.requires.from }

pub add_from-requires : goal.add_from-requires
add_from-requires c = starts-move _ _ _ _ _ c.requires.from _ c.turn_part-3.ensures

pub returns : goal.returns
returns c = λ f g. last_done f _ _ _ _ g _ c.turn_part-3.ensures _ _ _ c.add_from.ensures c.turn_part.ensures c.turn_part-2.ensures

-- `answer_stored` meets its contract: the value that the lists make is the set itself.
use Rattle.call_answer.proofs.from_factors.answer_stored.Goals as goal

pub answer-requires : goal.answer-requires
answer-requires c = rw c.stored_set-set.ensures c.requires

pub returns : goal.returns
returns c = rw c.stored_set-set.ensures at c.answer.ensures

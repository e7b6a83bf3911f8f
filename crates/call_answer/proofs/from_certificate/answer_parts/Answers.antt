-- `answer_parts` meets its contract: the value that the bytes make is the set that they hold.
use Rattle.call_answer.proofs.from_certificate.answer_parts.Goals as goal

pub answer-requires : goal.answer-requires
answer-requires c = rw c.set_of_certificate-set.ensures c.requires.ready

pub returns : goal.returns
returns c = rw c.set_of_certificate-set.ensures at c.answer.ensures

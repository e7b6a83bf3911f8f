-- `reduce_question` meets its contract: the working row is loaded, reduced, searched and cleared. Assumes nothing.
use Rattle.answer_question.proofs.AnswerLaws.{question-done}
use Rattle.answer_question.proofs.reduce.reduce_question.Goals as goal

pub returns : goal.returns
returns c =
    question-done c.args.q.p _ _ _ _ _ _ _ c.requires c.load.ensures _ _ _ _
    c.reduce.ensures c.lowest_nonzero-j.ensures c.clear_row.ensures

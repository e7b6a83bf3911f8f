-- `open_answer` meets its contract: the multiples are loaded before z is cleared. Assumes nothing.
use Rattle.answer_question.proofs.AnswerLaws.{cleared, open_done}
use Rattle.answer_question.proofs.answer.open_answer.Goals as goal

pub returns : goal.returns
returns c =
    record {
      z-is = cleared _ _ c.clear-2.ensures;
      x-is = open_done c.args.q.p _ _ _ _ _ _ _ c.requires c.load.ensures c.clear.ensures _ c.solve_lower.ensures.list;
      row = c.solve_lower.ensures.row;
    }

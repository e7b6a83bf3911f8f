-- `contradicted_answer` meets its contract: the part of the working row that is lent comes back all zero. Assumes nothing.
use Rattle.answer_question.proofs.AnswerLaws.{cleared}
use Rattle.answer_slots.proofs.SlotAnswers.{contradict-ready, contradict-done, work-clear}
use Rattle.answer_slots.proofs.solve.contradicted_answer.Goals as goal

pub contradict-requires : goal.contradict-requires
contradict-requires c = contradict-ready c.args.q.p c.args.r c.args.i _ _ _ _ _ c.requires c.clear-2.ensures

pub returns : goal.returns
returns c =
    let t = c.contradict in
    record {
      s-is = cleared _ _ c.clear.ensures;
      w-is = contradict-done c.args.q.p c.args.r c.args.i _ _ _ _ _ c.requires c.clear-2.ensures _ _ t.auto.work t.ensures;
      row = work-clear c.args.q.p c.args.r c.args.i _ _ _ _ _ c.requires c.clear-2.ensures _ _ t.auto.work t.ensures;
    }

-- `solved_answer` meets its contract: s is cleared before the substitution, and w after it. Assumes nothing.
use Rattle.answer_question.proofs.AnswerLaws.{cleared}
use Rattle.answer_slots.proofs.SlotAnswers.{settle-ready, settle-done}
use Rattle.answer_slots.proofs.solve.solved_answer.Goals as goal

pub settle-requires : goal.settle-requires
settle-requires c = settle-ready c.args.q.p c.args.r _ _ _ _ _ c.requires c.clear.ensures

pub returns : goal.returns
returns c =
    record {
      w-is = cleared _ _ c.clear-2.ensures;
      s-is = settle-done c.args.q.p c.args.r _ _ _ _ _ c.requires c.clear.ensures _ c.settle.ensures;
    }

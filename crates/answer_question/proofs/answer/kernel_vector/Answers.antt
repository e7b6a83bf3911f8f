-- `kernel_vector` meets its contract: z is cleared but for its one before the substitution. Assumes nothing.
use Rattle.answer_question.proofs.AnswerLaws.{closed-ready, closed-done}
use Rattle.answer_question.proofs.answer.kernel_vector.Goals as goal

pub solve_upper-requires : goal.solve_upper-requires
solve_upper-requires c = closed-ready c.args.q.p _ c.args.j _ _ _ _ c.requires c.clear.ensures

pub returns : goal.returns
returns c = closed-done c.args.q.p _ c.args.j _ _ _ _ c.requires c.clear.ensures _ c.solve_upper.ensures

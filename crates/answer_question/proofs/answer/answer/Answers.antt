-- `answer` meets its contract: the parts of the working row that are lent come back all zero. Assumes nothing.
use mathlib.Core.Path.{◌∙◌}
use native.Mathlib.Omega.{arith}
use Rattle.answer_question.proofs.Joined.{answer-reduces, answer-closes, answer-closed, answer-opens, answer-opened}
use Rattle.answer_question.proofs.answer.answer.Goals as goal

pub reduce_question-j-requires : goal.reduce_question-j-requires
reduce_question-j-requires c = answer-reduces c.args.q.p _ _ _ _ _ c.requires

pub closed_answer-requires : goal.closed_answer-requires
closed_answer-requires c =
    let t = c.reduce_question-j in answer-closes c.args.q.p _ _ _ _ _ c.requires _ _ _ t.auto.multiples t.auto.work t.ensures (omega arith)

pub returns-then-j-m : goal.returns-then-j-m
returns-then-j-m c =
    let t = c.reduce_question-j in let a = c.closed_answer in
    answer-closed c.args.q.p _ _ _ _ _ c.requires _ _ _ t.auto.multiples t.auto.work t.ensures _ _ (omega (arith, c.if-j-m.true)) a.auto.x a.ensures

pub open_answer-requires : goal.open_answer-requires
open_answer-requires c = let t = c.reduce_question-j in answer-opens c.args.q.p _ _ _ _ _ c.requires _ _ _ t.auto.multiples t.auto.work t.ensures

pub returns : goal.returns
returns c =
    let t = c.reduce_question-j in let a = c.open_answer in
    answer-opened c.args.q.p _ _ _ _ _ c.requires _ _ _ t.auto.multiples t.auto.work t.ensures _ _ _ (omega (arith, c.if-j-m.false))
    (a.auto.z ∙ t.auto.multiples) a.auto.work a.ensures

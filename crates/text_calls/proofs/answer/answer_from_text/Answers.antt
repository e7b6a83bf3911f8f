-- `answer_from_text` meets its contract. Assumes nothing.
use Rattle.call_answer.specs.Calls.{given_answer}
use Rattle.text_calls.proofs.Answers.{answers-text}
use Rattle.text_calls.proofs.answer.answer_from_text.Goals as goal

pub returns : goal.returns
returns c =
    let v = c.verdict_byte in
    answers-text c.args.text.now c.args.certificate.now c.args.y.now (given_answer c.answer_text-answer.result) c.args.x.now c.answer_text-answer.new.x c.args.z.now c.answer_text-answer.new.z _ c.answer_text-answer.new.work
    c.pack_answer.result v.result c.answer_text-answer.ensures c.pack_answer.ensures v.ensures

-- `answer_certified` meets its contract. Assumes nothing.
use Rattle.sparse.specs.Matrix.{compressed}
use Rattle.call_answer.specs.Calls.{given_answer}
use Rattle.text_plan.specs.Call.{reading_of}
use Rattle.answer_lib.proofs.Answered.{plan-held, certified-answers}
use Rattle.answer_lib.proofs.certified.answer_certified.Goals as goal

pub answer_read-requires : goal.answer_read-requires
answer_read-requires c = plan-held c.args.text.now (compressed c.read-read.new.starts c.read-read.new.cols c.read-read.new.vals) c.read-read.new.owners (reading_of c.read-read.result) c.read-read.ensures c.read-read.auto.starts c.read-read.auto.cols c.read-read.auto.vals

pub returns : goal.returns
returns c = certified-answers c.args.text.now (compressed c.read-read.new.starts c.read-read.new.cols c.read-read.new.vals) c.read-read.new.owners (reading_of c.read-read.result) c.read-read.ensures c.args.certificate.now c.args.y.now (given_answer c.answer_read.result) c.args.x.now c.answer_read.new.x c.args.z.now c.answer_read.new.z c.args.work.now c.answer_read.new.work c.requires c.answer_read.ensures

-- `answer_own` meets its contract. Assumes nothing.
use Rattle.sparse.specs.Matrix.{compressed}
use Rattle.sparse.specs.Set.{storage_of}
use Rattle.call_answer.specs.Calls.{given_answer}
use Rattle.stages.specs.Results.{stages_of}
use Rattle.answer_lib.proofs.Answered.{staged_ready, own-answers}
use Rattle.answer_lib.proofs.own.answer_own.Goals as goal

pub answer_staged-requires : goal.answer_staged-requires
answer_staged-requires c = staged_ready c.args.text.now c.args.y.now (stages_of c.factor_text-staged.result) (compressed c.factor_text-staged.new.starts c.factor_text-staged.new.cols c.factor_text-staged.new.vals) c.args.work.now (storage_of c.factor_text-staged.new.ro c.factor_text-staged.new.co (compressed c.factor_text-staged.new.ls c.factor_text-staged.new.lc c.factor_text-staged.new.lv) (compressed c.factor_text-staged.new.us c.factor_text-staged.new.uc c.factor_text-staged.new.uv) c.factor_text-staged.new.work) c.factor_text-staged.ensures c.requires

pub returns : goal.returns
returns c = own-answers c.args.text.now c.args.y.now (stages_of c.factor_text-staged.result) (compressed c.factor_text-staged.new.starts c.factor_text-staged.new.cols c.factor_text-staged.new.vals) c.args.work.now (storage_of c.factor_text-staged.new.ro c.factor_text-staged.new.co (compressed c.factor_text-staged.new.ls c.factor_text-staged.new.lc c.factor_text-staged.new.lv) (compressed c.factor_text-staged.new.us c.factor_text-staged.new.uc c.factor_text-staged.new.uv) c.factor_text-staged.new.work) c.factor_text-staged.ensures c.requires (given_answer c.answer_staged.result) c.args.x.now c.answer_staged.new.x c.args.z.now c.answer_staged.new.z c.answer_staged.new.work c.answer_staged.ensures

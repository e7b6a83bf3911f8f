-- `plq_make_certificate` meets its contract. Assumes nothing.
use Rattle.sparse.specs.Matrix.{compressed}
use Rattle.sparse.specs.Set.{storage_of}
use Rattle.refusals.specs.Outcome.{outcome_of}
use Rattle.stages.specs.Results.{stages_of}
use Rattle.text_calls.proofs.Making.{staged-fits, makes}
use Rattle.plq.proofs.plq_make_certificate.Goals as goal

pub make_staged-requires : goal.make_staged-requires
make_staged-requires c = let x = c.factor_text-staged in staged-fits c.args.text.now (stages_of x.result) (compressed x.new.starts x.new.cols x.new.vals) _ (storage_of x.new.ro x.new.co (compressed x.new.ls x.new.lc x.new.lv) (compressed x.new.us x.new.uc x.new.uv) x.new.work) x.ensures

pub returns : goal.returns
returns c = let x = c.factor_text-staged in let g = c.make_staged in makes c.args.text.now (stages_of x.result) (compressed x.new.starts x.new.cols x.new.vals) _ (storage_of x.new.ro x.new.co (compressed x.new.ls x.new.lc x.new.lv) (compressed x.new.us x.new.uc x.new.uv) x.new.work) x.ensures x.auto.work c.args.buffer.now g.new.buffer (outcome_of g.result) c.pack.result c.pack.ensures g.ensures

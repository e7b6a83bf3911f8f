-- `ask` meets its contract. Assumes nothing.
use mathlib.Core.Path.{refl}
use Rattle.sparse.specs.Matrix.{compressed}
use Rattle.sparse.specs.Set.{storage_of}
use Rattle.stages.specs.Results.{stages_of}
use Rattle.ask_lib.proofs.Asked.{staged_ready, asks}
use Rattle.ask_lib.proofs.ask.Goals as goal

pub factor_text-staged-requires : goal.factor_text-staged-requires
factor_text-staged-requires c = record { plan = record { starts-length = refl; columns-length = refl; values_length = refl }; set = record { R-length = refl; C-length = refl; L-lists = record { starts-length = refl; columns-length = refl; values_length = refl }; U-lists = record { starts-length = refl; columns-length = refl; values_length = refl } }; work-length = c.requires.work-length }

pub ask_staged-requires : goal.ask_staged-requires
ask_staged-requires c = staged_ready c.args.text.now c.args.y.now (stages_of c.factor_text-staged.result) (compressed c.factor_text-staged.new.starts c.factor_text-staged.new.cols c.factor_text-staged.new.vals) c.args.work.now (storage_of c.factor_text-staged.new.ro c.factor_text-staged.new.co (compressed c.factor_text-staged.new.ls c.factor_text-staged.new.lc c.factor_text-staged.new.lv) (compressed c.factor_text-staged.new.us c.factor_text-staged.new.uc c.factor_text-staged.new.uv) c.factor_text-staged.new.work) c.factor_text-staged.ensures c.args.out.now c.requires c.factor_text-staged.auto.ro c.factor_text-staged.auto.co

pub returns : goal.returns
returns c = asks c.args.text.now c.args.y.now (stages_of c.factor_text-staged.result) (compressed c.factor_text-staged.new.starts c.factor_text-staged.new.cols c.factor_text-staged.new.vals) c.args.work.now (storage_of c.factor_text-staged.new.ro c.factor_text-staged.new.co (compressed c.factor_text-staged.new.ls c.factor_text-staged.new.lc c.factor_text-staged.new.lv) (compressed c.factor_text-staged.new.us c.factor_text-staged.new.uc c.factor_text-staged.new.uv) c.factor_text-staged.new.work) c.factor_text-staged.ensures c.ask_staged.result c.args.out.now c.ask_staged.new.out c.ask_staged.new.work c.ask_staged.ensures

-- `report_all` meets its contract. Assumes nothing.
use mathlib.Core.Path.{refl}
use Rattle.sparse.specs.Matrix.{compressed}
use Rattle.sparse.specs.Set.{storage_of}
use Rattle.stages.specs.Results.{stages_of}
use Rattle.report_lib.proofs.Reporting.{ready, reported-all}
use Rattle.report_lib.proofs.report_all.Goals as goal

pub report_staged-size-requires : goal.report_staged-size-requires
report_staged-size-requires c = ready c.args.text.now (stages_of c.factor_owned-staged.result) (compressed c.factor_owned-staged.new.starts c.factor_owned-staged.new.cols c.factor_owned-staged.new.vals) c.factor_owned-staged.new.owners c.args.work.now (storage_of c.factor_owned-staged.new.ro c.factor_owned-staged.new.co (compressed c.factor_owned-staged.new.ls c.factor_owned-staged.new.lc c.factor_owned-staged.new.lv) (compressed c.factor_owned-staged.new.us c.factor_owned-staged.new.uc c.factor_owned-staged.new.uv) c.factor_owned-staged.new.work) c.factor_owned-staged.ensures _ c.args.out.now c.requires c.factor_owned-staged.auto.co c.factor_owned-staged.auto.owners refl

pub returns : goal.returns
returns c = reported-all c.args.text.now (stages_of c.factor_owned-staged.result) (compressed c.factor_owned-staged.new.starts c.factor_owned-staged.new.cols c.factor_owned-staged.new.vals) c.factor_owned-staged.new.owners c.args.work.now (storage_of c.factor_owned-staged.new.ro c.factor_owned-staged.new.co (compressed c.factor_owned-staged.new.ls c.factor_owned-staged.new.lc c.factor_owned-staged.new.lv) (compressed c.factor_owned-staged.new.us c.factor_owned-staged.new.uc c.factor_owned-staged.new.uv) c.factor_owned-staged.new.work) c.factor_owned-staged.ensures c.first_refusal-outcome.result c.report_staged-size.result c.args.out.now c.report_staged-size.new.out c.report_staged-size.new.work c.first_refusal-outcome.ensures c.report_staged-size.ensures

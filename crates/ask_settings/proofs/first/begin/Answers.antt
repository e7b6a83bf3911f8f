-- `begin` meets its contract: the stages, then the first line of what they came to. Assumes nothing.
use mathlib.Core.Path.{◌∙◌}
use Rattle.sparse.specs.Matrix.{Compressed, compressed}
use Rattle.sparse.specs.Set.{Storage, storage_of}
use Rattle.stages.specs.Results.{stages_of}
use Rattle.ask_settings.proofs.Beginning.{staged_ready, begins}
use Rattle.ask_settings.proofs.first.begin.Goals as goal

pub begin_staged-requires : goal.begin_staged-requires
begin_staged-requires c =
    let held : Storage = storage_of c.factor_text-staged.new.ro c.factor_text-staged.new.co (compressed c.factor_text-staged.new.ls c.factor_text-staged.new.lc c.factor_text-staged.new.lv) (compressed c.factor_text-staged.new.us c.factor_text-staged.new.uc c.factor_text-staged.new.uv) c.factor_text-staged.new.work in
    let plan : Compressed = compressed c.factor_text-staged.new.starts c.factor_text-staged.new.cols c.factor_text-staged.new.vals in
    staged_ready c.args.text.now (stages_of c.factor_text-staged.result) (plan) c.args.work.now (held) c.factor_text-staged.ensures (c.factor_text-staged.auto.co ∙ c.requires.C-length) c.args.out.now c.requires.room c.requires.work-length

pub returns : goal.returns
returns c =
    let held : Storage = storage_of c.factor_text-staged.new.ro c.factor_text-staged.new.co (compressed c.factor_text-staged.new.ls c.factor_text-staged.new.lc c.factor_text-staged.new.lv) (compressed c.factor_text-staged.new.us c.factor_text-staged.new.uc c.factor_text-staged.new.uv) c.factor_text-staged.new.work in
    let plan : Compressed = compressed c.factor_text-staged.new.starts c.factor_text-staged.new.cols c.factor_text-staged.new.vals in
    begins c.args.text.now (stages_of c.factor_text-staged.result) (plan) c.args.work.now (held) c.factor_text-staged.ensures (c.factor_text-staged.auto.co ∙ c.requires.C-length) (record { starts-length = c.factor_text-staged.auto.us ∙ c.requires.U-lists.starts-length; columns-length = c.factor_text-staged.auto.uc ∙ c.requires.U-lists.columns-length; values_length = c.factor_text-staged.auto.uv ∙ c.requires.U-lists.values_length }) c.begin_staged.new.work (c.begin_staged.auto.work ∙ c.factor_text-staged.auto.work ∙ c.requires.work-length) c.begin_staged.result c.args.out.now c.begin_staged.new.out c.begin_staged.ensures

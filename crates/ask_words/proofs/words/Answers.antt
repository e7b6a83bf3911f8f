-- `words` meets its contract. Assumes nothing.
use mathlib.Core.Path.{refl}
use Rattle.sparse.specs.Matrix.{compressed}
use Rattle.sparse.specs.Set.{storage_of}
use Rattle.stages.specs.Results.{stages_of}
use Rattle.ask_words.proofs.Told.{words-ready, tells}
use Rattle.ask_words.proofs.words.Goals as goal

pub factor_owned-staged-requires : goal.factor_owned-staged-requires
factor_owned-staged-requires c = record { lists = record { plan = record { starts-length = refl; columns-length = refl; values_length = refl }; set = record { R-length = refl; C-length = refl; L-lists = record { starts-length = refl; columns-length = refl; values_length = refl }; U-lists = record { starts-length = refl; columns-length = refl; values_length = refl } }; work-length = c.requires.work-length }; owners-length = refl }

pub words_staged-requires : goal.words_staged-requires
words_staged-requires c = words-ready c.args.text.now c.args.h.now (stages_of c.factor_owned-staged.result) (compressed c.factor_owned-staged.new.starts c.factor_owned-staged.new.cols c.factor_owned-staged.new.vals) c.factor_owned-staged.new.owners c.args.work.now (storage_of c.factor_owned-staged.new.ro c.factor_owned-staged.new.co (compressed c.factor_owned-staged.new.ls c.factor_owned-staged.new.lc c.factor_owned-staged.new.lv) (compressed c.factor_owned-staged.new.us c.factor_owned-staged.new.uc c.factor_owned-staged.new.uv) c.factor_owned-staged.new.work) c.factor_owned-staged.ensures c.args.out.now c.requires c.factor_owned-staged.auto.owners c.factor_owned-staged.auto.ro c.factor_owned-staged.auto.co

pub returns : goal.returns
returns c = tells c.args.text.now c.args.h.now (stages_of c.factor_owned-staged.result) (compressed c.factor_owned-staged.new.starts c.factor_owned-staged.new.cols c.factor_owned-staged.new.vals) c.factor_owned-staged.new.owners c.args.work.now (storage_of c.factor_owned-staged.new.ro c.factor_owned-staged.new.co (compressed c.factor_owned-staged.new.ls c.factor_owned-staged.new.lc c.factor_owned-staged.new.lv) (compressed c.factor_owned-staged.new.us c.factor_owned-staged.new.uc c.factor_owned-staged.new.uv) c.factor_owned-staged.new.work) c.factor_owned-staged.ensures c.words_staged.result c.args.out.now c.words_staged.new.out c.words_staged.new.work c.words_staged.ensures

-- `setting_line` meets its contract, by the mark of the column. Assumes nothing.
use Rattle.sparse.specs.Matrix.{compressed}
use Rattle.ask_settings.proofs.Column.{free-ready, pivot-line, column-line}
use Rattle.ask_settings.proofs.line.setting_line.Goals as goal

pub returns-then-marks-c-ne0 : goal.returns-then-marks-c-ne0
returns-then-marks-c-ne0 c = pivot-line c.args.g c.args.co.now (compressed c.args.us.now c.args.uc.now c.args.uv.now) c.args.marks.now c.args.c c.args.out.now c.requires c.if-marks-c-ne0.true _ c.clear_bytes.ensures

pub free_line-requires : goal.free_line-requires
free_line-requires c = free-ready c.args.g c.args.co.now (compressed c.args.us.now c.args.uc.now c.args.uv.now) c.args.marks.now c.args.c c.args.out.now c.requires

pub returns : goal.returns
returns c = column-line c.args.g c.args.co.now (compressed c.args.us.now c.args.uc.now c.args.uv.now) c.args.marks.now c.args.c c.args.out.now c.requires c.if-marks-c-ne0.false c.free_line.result c.free_line.new.out c.free_line.ensures

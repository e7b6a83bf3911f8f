-- `row_closed` meets its contract: the row is a row of a well-formed matrix. Assumes nothing.
use mathlib.Core.Path.{ap, ◌∙◌}
use Rattle.sparse.proofs.Entries.{row-columns}
use Rattle.sparse.proofs.PartLaws.{has-row}
use Rattle.sparse.proofs.Rows.{form-row}
use Rattle.answer_open.specs.Counting.{closed_others}
use Rattle.answer_open.proofs.count.row_closed.Goals as goal

pub row-requires : goal.row-requires
row-requires c = has-row _ _ _ _ c.requires.formed c.requires.inside

pub closed_others-requires : goal.closed_others-requires
closed_others-requires c = rw c.row.ensures.cols (row-columns _ _ _ _ (form-row c.args.p _ _ _ _ c.requires.formed c.args.k))

pub returns : goal.returns
returns c = c.closed_others.ensures ∙ ap (closed_others c.args.d c.args.marks.now) c.row.ensures.cols

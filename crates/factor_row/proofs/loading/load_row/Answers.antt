-- `load_row` meets its contract: the row is a row of a well-formed matrix.
use Rattle.sparse.proofs.PartLaws.{has-row}
use Rattle.sparse.proofs.Rows.{form-row}
use Rattle.factor_row.proofs.loading.load_row.Goals as goal

pub row-requires : goal.row-requires
row-requires c = rw c.stored-matrix.ensures (has-row _ _ _ _ c.requires.formed c.requires.inside)

pub load-requires : goal.load-requires
load-requires c =
    record {
      row = rw (c.row.ensures.cols, c.row.ensures.vals, c.stored-matrix.ensures) (form-row c.args.p _ _ _ _ c.requires.formed c.args.i);
      clear = c.requires.clear;
    }

pub returns : goal.returns
returns c = rw (c.row.ensures.cols, c.row.ensures.vals, c.stored-matrix.ensures) at c.load.ensures

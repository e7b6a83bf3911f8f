-- `grow_row` meets its contract: the row is a row of a well-formed matrix.
use Rattle.sparse.proofs.Rows.{form-row}
use Rattle.sparse.proofs.PartLaws.{has-row}
use Rattle.sparse.proofs.growing.grow_row.Goals as goal

pub row-requires : goal.row-requires
row-requires c = has-row _ _ _ _ c.requires.formed c.requires.inside

pub grow-requires : goal.grow-requires
grow-requires c =
    record {
      row = rw (c.row.ensures.cols, c.row.ensures.vals) (form-row c.args.q.p _ _ _ _ c.requires.formed c.args.k);
      residue = c.requires.residue;
      some = c.requires.some;
      room = c.requires.room;
    }

pub returns : goal.returns
returns c = rw (c.row.ensures.cols, c.row.ensures.vals) at (c.grow.ensures)

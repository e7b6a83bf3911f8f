-- `take_multiple` meets its contract: on either way the multiple is taken away, since 0 times the row is nothing. Assumes nothing.
use lib.ListN.{set}
use Rattle.sparse.specs.Matrix.{compressed, matrix}
use Rattle.factor_marked.specs.Marking.{MultipleMarked}
use Rattle.factor_marked.proofs.Multiples.{row-noted, row-takeable, none-taken, some-taken, marked-as}
use Rattle.factor_marked.proofs.gather.take_multiple.Goals as goal
use Rattle.factor_marked.proofs.gather.take_multiple.Goals.{then-x-ne0, else-x-ne0}

pub note_stored_row-all-requires : goal.note_stored_row-all-requires
note_stored_row-all-requires c = row-noted _ _ _ _ _ _ _ _ _ c.requires

pub grow_list_row-requires : goal.grow_list_row-requires
grow_list_row-requires c = row-takeable _ _ _ _ _ _ _ _ _ c.requires _ c.reduce_cell-x.ensures c.if-x-ne0.true

-- On either way the multiple is taken away.
done : (c : goal.Joined-x-ne0) →
    MultipleMarked c.args.q.p c.args.k c.args.c (matrix (compressed c.args.us.now c.args.uc.now c.args.uv.now) c.args.k) c.args.place.now c.args.work.now c.if-x-ne0.touched c.if-x-ne0.pending (set c.if-x-ne0.work c.args.c 0) c.reduce_cell-x.result c.if-x-ne0.all
done c = elim c.if-x-ne0.branch [
  | then-x-ne0 w ↦ marked-as _ _ _ _ _ _ _ _ _ _ _ _ _ _ _ w.touched-is w.pending-is w.work-is w.all-is (some-taken _ _ _ _ _ _ _ _ _ c.requires _ c.reduce_cell-x.ensures _ _ _ _ w.note_stored_row-all.ensures w.grow_list_row.ensures)
  | else-x-ne0 w ↦ marked-as _ _ _ _ _ _ _ _ _ _ _ _ _ _ _ w.touched-is w.pending-is w.work-is w.all-is (none-taken _ _ _ _ _ _ _ _ _ c.requires _ c.reduce_cell-x.ensures w.if-x-ne0.false)
]

pub returns : goal.returns
returns c = done c

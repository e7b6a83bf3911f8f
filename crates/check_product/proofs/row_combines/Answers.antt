-- `row_combines` meets its contract: A's row is put into the working row, and the rows that L's row names are taken away.
use Rattle.std.proofs.Common.{sym, ap, ◌∙◌, arith}
use Rattle.lists.specs.Filled.{zeros}
use Rattle.algebra.specs.Matrix.{vector}
use Rattle.sparse.specs.Matrix.{matrix}
use Rattle.sparse.proofs.Entries.{row-columns}
use Rattle.sparse.proofs.PartLaws.{has-row}
use Rattle.sparse.proofs.Rows.{form-row}
use Rattle.check_product.proofs.Rows.{combination-agrees, zero-below}
use Rattle.check_product.proofs.SweepLaws.{loaded-others}
use Rattle.check_product.proofs.row_combines.Goals as goal

pub subtract_row-requires : goal.subtract_row-requires
subtract_row-requires c =
    record {
      formed = c.requires.1.A-form;
      inside = omega (arith, c.requires.1.A-rows, c.index_at-k.ensures, c.requires.1.inside c.args.i (omega (arith, c.requires.0, c.requires.1.order)));
      residue = omega (arith, c.requires.1.positive);
      below = zero-below _ _ c.requires.1.positive c.requires.1.cleared;
    }

pub row-requires : goal.row-requires
row-requires c = has-row c.args.q.p _ _ _ c.requires.1.A-form (omega (arith, c.requires.1.A-rows, c.index_at-k.ensures, c.requires.1.inside c.args.i (omega (arith, c.requires.0, c.requires.1.order))))

pub row-requires-2 : goal.row-requires-2
row-requires-2 c = has-row c.args.q.p _ _ _ c.requires.1.L-form (omega (arith, c.requires.0, c.requires.1.L-rows))

pub is_combination-requires : goal.is_combination-requires
is_combination-requires c =
    let k = c.index_at-k.result in let w = c.subtract_row.ensures in
    record {
      combines =
          record {
            positive = c.requires.1.positive;
            row = rw (c.row-2.ensures.cols, c.row-2.ensures.vals) (form-row c.args.q.p _ _ _ _ c.requires.1.L-form c.args.i);
            U-form = rw w.long c.requires.1.U-form;
            U-rows = c.requires.1.U-rows;
            narrow = c.requires.1.narrow;
            below = w.below;
          };
      cells = rw (c.row.ensures.cols, w.long) (row-columns c.args.q.p _ _ _ (form-row c.args.q.p _ _ _ _ c.requires.1.A-form k));
      others = rw (c.row.ensures.cols) (loaded-others _ _ _ _ _ _ c.requires.1.cleared w);
    }

pub returns : goal.returns
returns c =
    let z = c.is_combination.ensures in (
      z.0 ∙ combination-agrees c.args.q.p c.args.r c.args.plan.now (vector c.args.ro.now) c.args.l.now (matrix c.args.u.now) c.args.i c.index_at-k.result _ _ _ _ c.requires.1.positive c.requires.1.cleared c.requires.1.L-form c.index_at-k.ensures c.row-2.ensures.cols c.row-2.ensures.vals c.subtract_row.ensures,
      z.1 ∙ ap zeros c.subtract_row.ensures.long ∙ sym c.requires.1.cleared,
    )

use Rattle.check_product.specs.Sweep.{Among}
use Rattle.check_product.proofs.SweepLaws.{swept_all}
use Rattle.check_product.proofs.sweep.clear_touched.Goals as goal

pub sweep_row-requires : goal.sweep_row-requires
sweep_row-requires c =
    let own = c.requires.own in
    record { positive = own.positive; cells = rw c.sweep_rows-zero.ensures.long own.cells }

pub returns : goal.returns
returns c = swept_all c.args.q.p _ (Among c.args.cols.now) _ _ _ _ _ c.requires.others c.sweep_rows-zero.ensures c.sweep_row.ensures

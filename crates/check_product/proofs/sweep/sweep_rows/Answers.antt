-- `sweep_rows` meets its contract: each part that is swept is a row of U.
use Rattle.std.proofs.Common.{◌≡◌, ◌+◌, ◌<◌, length, ◌∙◌, arith}
use Rattle.std.proofs.Math.Seq.{slice}
use Rattle.sparse.specs.Matrix.{row_of}
use Rattle.check_product.proofs.SweepLaws.{sweeping-turn}
use Rattle.check_product.proofs.sweep.sweep_rows.Goals as goal

pub part-requires : goal.part-requires
part-requires c =
    let named : c.index_at-k.result + 1 < length c.args.u.now.starts = omega (arith, c.index_at-k.ensures, c.requires.rows c.loop-t.t (omega (arith, c.len-t-end.ensures))) in
    let rows = c.requires.U-rows in (
      omega (arith, rows.rise c.index_at-k.result named, c.index-a.ensures ∙ c.at.ensures.value, c.index-e.ensures ∙ c.at-in-loop-t.ensures.value),
      omega (arith, rows.end c.index_at-k.result named, c.index-e.ensures ∙ c.at-in-loop-t.ensures.value),
    )

pub sweep_row-zero-requires : goal.sweep_row-zero-requires
sweep_row-zero-requires c =
    let columns : c.part.result ≡ row_of c.args.u.now.starts c.index_at-k.result c.args.u.now.cols = c.part.ensures ∙ (λ j. slice ((c.index-a.ensures ∙ c.at.ensures.value) j) ((c.index-e.ensures ∙ c.at-in-loop-t.ensures.value) j) c.args.u.now.cols) in
    record { positive = c.requires.positive; cells = rw (columns, c.loop-t.invariant.so_far.long) (c.requires.U-rows.row c.index_at-k.result) }

pub loop-t-preserved : goal.loop-t-preserved
loop-t-preserved c =
    let columns : c.part.result ≡ row_of c.args.u.now.starts c.index_at-k.result c.args.u.now.cols = c.part.ensures ∙ (λ j. slice ((c.index-a.ensures ∙ c.at.ensures.value) j) ((c.index-e.ensures ∙ c.at-in-loop-t.ensures.value) j) c.args.u.now.cols) in
    let l = c.loop-t in
    sweeping-turn _ _ _ _ _ _ _ _ _ l.t c.index_at-k.result c.index_at-k.ensures l.invariant (rw (columns) at c.sweep_row-zero.ensures)

-- `take_pair` meets its contract: the row lies where the starts say, and its copy is its row of U. Assumes nothing.
use native.Mathlib.Omega.{arith}
use Rattle.factor_row.proofs.LoadedRows.{row-starts, row-paired}
use Rattle.factor_row.proofs.PairRows.{pair-ready, pair-taken}
use Rattle.factor_row.proofs.taking.take_pair.Goals as goal

pub part-requires : goal.part-requires
part-requires c =
    let q = row-starts _ _ _ _ c.requires.row in
    (omega (arith, q, c.index-a.ensures, c.index-e.ensures), omega (arith, q, c.index-e.ensures))

pub part-requires-2 : goal.part-requires-2
part-requires-2 c =
    let q = row-starts _ _ _ _ c.requires.row in
    (omega (arith, q, c.index-a.ensures, c.index-e.ensures), omega (arith, q, row-paired _ _ _ _ c.requires.row, c.index-e.ensures))

pub copy_pivot-requires : goal.copy_pivot-requires
copy_pivot-requires c = pair-ready _ _ _ _ _ _ _ _ _ _ _ _ _ c.requires _ _ c.index-a.ensures c.index-e.ensures _ _ c.part.ensures c.part-2.ensures

pub returns : goal.returns
returns c =
    let d = c.copy_pivot.ensures in
    pair-taken _ _ _ _ _ _ _ _ _ _ _ _ _ c.requires _ _ c.index-a.ensures c.index-e.ensures _ _ c.part.ensures c.part-2.ensures _ _ _ _ _ d.0 d.1

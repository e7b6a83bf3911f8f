use Prim.Native.Nat.{◌+◌, ◌≤◌}
use mathlib.Core.Path.{◌≡◌, ◌∙◌}
use native.Mathlib.Omega.{arith}
use lib.ListN.{length, get_or}
use Rattle.sparse.proofs.Rows.{form-starts, form-paired}
use Rattle.check_shape.proofs.RowTests.{stored-column, row_at}
use Rattle.check_shape.proofs.upper.unit_row.Goals as goal

pub unmarked-requires : goal.unmarked-requires
unmarked-requires c =
    let from : c.index-a.result ≡ get_or c.args.u.now.starts c.args.k 0 = c.index-a.ensures ∙ c.at.ensures.value in
    let upto : c.index-e.result ≡ get_or c.args.u.now.starts (c.args.k + 1) 0 = c.index-e.ensures ∙ c.at-2.ensures.value in
    let bounds : (c.index-a.result ≤ c.index-e.result)
    × (c.index-e.result ≤ length c.args.u.now.cols)
    × (c.index-e.result ≤ length c.args.u.now.vals) = let b = form-starts c.args.p _ _ _ _ c.requires.formed c.args.k c.requires.inside in
    let e = form-paired c.args.p _ _ _ _ c.requires.formed in
    (omega (arith, b.0, from, upto), omega (arith, b.1, upto), omega (arith, b.1, upto, e)) in
    let b = bounds in
    (b.0, b.1, λ t h g. stored-column c.args.p _ _ _ _ c.args.k t c.requires.formed c.requires.inside (omega (arith, from)) (omega (arith, upto)))

pub value_at-requires : goal.value_at-requires
value_at-requires c =
    let from : c.index-a.result ≡ get_or c.args.u.now.starts c.args.k 0 = c.index-a.ensures ∙ c.at.ensures.value in
    let upto : c.index-e.result ≡ get_or c.args.u.now.starts (c.args.k + 1) 0 = c.index-e.ensures ∙ c.at-2.ensures.value in
    let bounds : (c.index-a.result ≤ c.index-e.result)
    × (c.index-e.result ≤ length c.args.u.now.cols)
    × (c.index-e.result ≤ length c.args.u.now.vals) = let b = form-starts c.args.p _ _ _ _ c.requires.formed c.args.k c.requires.inside in
    let e = form-paired c.args.p _ _ _ _ c.requires.formed in
    (omega (arith, b.0, from, upto), omega (arith, b.1, upto), omega (arith, b.1, upto, e)) in
    let b = bounds in
    (b.0, b.1, b.2, row_at c.args.p _ _ _ _ c.args.k _ _ c.requires.formed (from) (upto))

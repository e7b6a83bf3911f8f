use Prim.Native.Nat.{ℕ}
use mathlib.Core.List.{List}
use Rattle.sparse.specs.Matrix.{Compressed, matrix}
use Rattle.check_product.proofs.Rows.{cleared-combination}
use Rattle.check_product.proofs.SweepLaws.{clears-touched}
use Rattle.check_product.proofs.is_combination.Goals as goal

pub clear_touched-requires : goal.clear_touched-requires
clear_touched-requires c =
    let cols : List ℕ = c.args.cols.now in
    let ks : List ℕ = c.args.row.now.cols in
    let vs : List ℕ = c.args.row.now.vals in
    let U : Compressed = c.args.u.now in
    clears-touched c.args.q.p c.args.r (cols) (ks) (vs) (U) _ _ c.requires c.subtract_rows.ensures

pub returns : goal.returns
returns c =
    let ks : List ℕ = c.args.row.now.cols in
    let vs : List ℕ = c.args.row.now.vals in
    let U : Compressed = c.args.u.now in
    cleared-combination c.args.q.p (ks) (vs) (matrix (U)) _ _ _ _ c.subtract_rows.ensures c.clear_touched.ensures

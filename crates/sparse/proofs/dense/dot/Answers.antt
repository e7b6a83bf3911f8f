-- `dot` meets its contract; the loop's invariant is `Summing`.
use Prim.Native.Nat.{◌<◌}
use mathlib.Core.Path.{◌≡◌, ◌∙◌}
use native.Mathlib.Omega.{arith}
use lib.ListN.{length, get_or}
use Rattle.sparse.proofs.Entries.{row-columns, row-values}
use Rattle.sparse.proofs.DenseSteps.{summing-turn, summing-ends}
use Rattle.sparse.proofs.dense.dot.Goals as goal

pub at-v-requires : goal.at-v-requires
at-v-requires c =
    let paired : c.loop-t.t < length c.args.row.now.vals = omega (arith, c.requires.row.paired) in
    paired

pub offset_bounds-z-j : goal.offset_bounds-z-j
offset_bounds-z-j c =
    let place : c.index-j.result ≡ get_or c.args.row.now.cols c.loop-t.t 0 = c.index-j.ensures ∙ c.at.ensures.value in
    let column : c.index-j.result < length c.args.z.now = rw (place) (row-columns _ _ _ _ c.requires.row c.loop-t.t (omega arith)) in
    omega (arith, column)

pub bounds-z-j : goal.bounds-z-j
bounds-z-j c =
    let place : c.index-j.result ≡ get_or c.args.row.now.cols c.loop-t.t 0 = c.index-j.ensures ∙ c.at.ensures.value in
    let column : c.index-j.result < length c.args.z.now = rw (place) (row-columns _ _ _ _ c.requires.row c.loop-t.t (omega arith)) in
    column

pub add_product-s-requires : goal.add_product-s-requires
add_product-s-requires c =
    let paired : c.loop-t.t < length c.args.row.now.vals = omega (arith, c.requires.row.paired) in
    let place : c.index-j.result ≡ get_or c.args.row.now.cols c.loop-t.t 0 = c.index-j.ensures ∙ c.at.ensures.value in
    let column : c.index-j.result < length c.args.z.now = rw (place) (row-columns _ _ _ _ c.requires.row c.loop-t.t (omega arith)) in
    let l = c.loop-t in (
      l.invariant.below,
      record { left = rw c.at-v.ensures.value (row-values _ _ _ _ c.requires.row l.t (paired)); right = c.requires.below c.index-j.result (column) },
    )

pub loop-t-preserved : goal.loop-t-preserved
loop-t-preserved c =
    let paired : c.loop-t.t < length c.args.row.now.vals = omega (arith, c.requires.row.paired) in
    let place : c.index-j.result ≡ get_or c.args.row.now.cols c.loop-t.t 0 = c.index-j.ensures ∙ c.at.ensures.value in
    let l = c.loop-t in
    summing-turn _ _ _ _ l.s c.add_product-s.result l.t c.index-j.result c.at-v.result (omega arith) (paired) (place) c.at-v.ensures.value c.add_product-s.ensures l.invariant

pub returns : goal.returns
returns c = summing-ends _ _ _ _ _ _ _ (omega arith) c.loop-t.invariant c.reduce.ensures

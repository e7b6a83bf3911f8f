-- `load` meets its contract; the loop's invariant is `Loading`.
use Prim.Native.Nat.{◌<◌}
use mathlib.Core.Path.{◌≡◌, ◌∙◌}
use native.Mathlib.Omega.{arith}
use lib.ListN.{length, get_or}
use Rattle.sparse.proofs.Entries.{row-columns}
use Rattle.sparse.proofs.DenseSteps.{loading-starts, loading-fits, loading-turn, loading-ends}
use Rattle.sparse.proofs.dense.load.Goals as goal

pub loop-t-init : goal.loop-t-init
loop-t-init c = loading-starts _ _ _ c.requires.clear

pub at-v-requires : goal.at-v-requires
at-v-requires c =
    let paired : c.loop-t.t < length c.args.row.now.vals = omega (arith, c.requires.row.paired) in
    paired

pub offset_bounds-work-j : goal.offset_bounds-work-j
offset_bounds-work-j c =
    let place : c.index-j.result ≡ get_or c.args.row.now.cols c.loop-t.t 0 = c.index-j.ensures ∙ c.at.ensures.value in
    let column : c.index-j.result < length c.loop-t.work = rw (place, c.loop-t.invariant.long) (row-columns _ _ _ _ c.requires.row c.loop-t.t (omega arith)) in
    omega (arith, column)

pub bounds-work-j : goal.bounds-work-j
bounds-work-j c =
    let place : c.index-j.result ≡ get_or c.args.row.now.cols c.loop-t.t 0 = c.index-j.ensures ∙ c.at.ensures.value in
    let column : c.index-j.result < length c.loop-t.work = rw (place, c.loop-t.invariant.long) (row-columns _ _ _ _ c.requires.row c.loop-t.t (omega arith)) in
    column

pub overflow_add-work : goal.overflow_add-work
overflow_add-work c =
    let paired : c.loop-t.t < length c.args.row.now.vals = omega (arith, c.requires.row.paired) in
    let place : c.index-j.result ≡ get_or c.args.row.now.cols c.loop-t.t 0 = c.index-j.ensures ∙ c.at.ensures.value in
    let column : c.index-j.result < length c.loop-t.work = rw (place, c.loop-t.invariant.long) (row-columns _ _ _ _ c.requires.row c.loop-t.t (omega arith)) in
    let i = c.loop-t in omega (arith, c.ranges.p, loading-fits _ _ _ i.work i.t c.index-j.result c.at-v.result (omega arith) (paired) (place) c.at-v.ensures.value i.invariant c.args.p _ c.requires.row (column))

pub offset_bounds-work-j-in-loop-t : goal.offset_bounds-work-j-in-loop-t
offset_bounds-work-j-in-loop-t c =
    let place : c.index-j.result ≡ get_or c.args.row.now.cols c.loop-t.t 0 = c.index-j.ensures ∙ c.at.ensures.value in
    let column : c.index-j.result < length c.loop-t.work = rw (place, c.loop-t.invariant.long) (row-columns _ _ _ _ c.requires.row c.loop-t.t (omega arith)) in
    omega (arith, column)

pub bounds-work-j-in-loop-t : goal.bounds-work-j-in-loop-t
bounds-work-j-in-loop-t c =
    let place : c.index-j.result ≡ get_or c.args.row.now.cols c.loop-t.t 0 = c.index-j.ensures ∙ c.at.ensures.value in
    let column : c.index-j.result < length c.loop-t.work = rw (place, c.loop-t.invariant.long) (row-columns _ _ _ _ c.requires.row c.loop-t.t (omega arith)) in
    column

pub loop-t-preserved : goal.loop-t-preserved
loop-t-preserved c =
    let paired : c.loop-t.t < length c.args.row.now.vals = omega (arith, c.requires.row.paired) in
    let place : c.index-j.result ≡ get_or c.args.row.now.cols c.loop-t.t 0 = c.index-j.ensures ∙ c.at.ensures.value in
    let column : c.index-j.result < length c.loop-t.work = rw (place, c.loop-t.invariant.long) (row-columns _ _ _ _ c.requires.row c.loop-t.t (omega arith)) in
    let i = c.loop-t in
    loading-turn _ _ _ i.work i.t c.index-j.result c.at-v.result (omega arith) (paired) (place) c.at-v.ensures.value i.invariant (column)

pub shape_of-work : goal.shape_of-work
shape_of-work c = c.loop-t.invariant.long

pub returns : goal.returns
returns c = loading-ends _ _ _ _ _ (omega arith) c.loop-t.invariant

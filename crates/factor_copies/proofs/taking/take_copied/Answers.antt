-- `take_copied` meets its contract: the cells of the copy are those of the row. Assumes nothing.
use mathlib.Core.Path.{refl}
use native.Mathlib.Omega.{arith}
use lib.ListN.{length}
use Rattle.sparse.specs.Matrix.{compressed, matrix}
use Rattle.factor_copies.specs.Copies.{CopyAt}
use Rattle.factor_copies.proofs.TakeLaws.{copy_at, copy-ready, copy-grown}
use Rattle.factor_copies.proofs.taking.take_copied.Goals as goal

pub overflow_sub-end : goal.overflow_sub-end
overflow_sub-end c =
    let held : CopyAt c.args.q.p (length c.args.work.now) (matrix (compressed c.args.starts.now c.args.cols.now c.args.vals.now) c.args.k) c.index-at.result c.index-low.result c.args.copies.now = copy_at _ _ _ _ _ c.requires.copy _ _ c.index-at.ensures c.index-low.ensures c.if-at-eq0.false in
    (held).wide

pub overflow_add-end : goal.overflow_add-end
overflow_add-end c =
    let held : CopyAt c.args.q.p (length c.args.work.now) (matrix (compressed c.args.starts.now c.args.cols.now c.args.vals.now) c.args.k) c.index-at.result c.index-low.result c.args.copies.now = copy_at _ _ _ _ _ c.requires.copy _ _ c.index-at.ensures c.index-low.ensures c.if-at-eq0.false in
    omega (arith, (held).inside, c.well_formed)

pub part-requires : goal.part-requires
part-requires c =
    let held : CopyAt c.args.q.p (length c.args.work.now) (matrix (compressed c.args.starts.now c.args.cols.now c.args.vals.now) c.args.k) c.index-at.result c.index-low.result c.args.copies.now = copy_at _ _ _ _ _ c.requires.copy _ _ c.index-at.ensures c.index-low.ensures c.if-at-eq0.false in
    let h = held in (omega arith, h.inside)

pub add_from-requires : goal.add_from-requires
add_from-requires c =
    let held : CopyAt c.args.q.p (length c.args.work.now) (matrix (compressed c.args.starts.now c.args.cols.now c.args.vals.now) c.args.k) c.index-at.result c.index-low.result c.args.copies.now = copy_at _ _ _ _ _ c.requires.copy _ _ c.index-at.ensures c.index-low.ensures c.if-at-eq0.false in
    rw c.part.ensures (copy-ready _ _ _ _ _ _ _ c.requires _ _ _ (held) refl (omega (arith, c.requires.grow.residue)))

pub returns : goal.returns
returns c =
    let held : CopyAt c.args.q.p (length c.args.work.now) (matrix (compressed c.args.starts.now c.args.cols.now c.args.vals.now) c.args.k) c.index-at.result c.index-low.result c.args.copies.now = copy_at _ _ _ _ _ c.requires.copy _ _ c.index-at.ensures c.index-low.ensures c.if-at-eq0.false in
    copy-grown _ _ _ _ _ _ _ c.requires _ _ _ (held) refl (omega (arith, c.requires.grow.residue)) _ (rw c.part.ensures at c.add_from.ensures)

-- `touch` meets its contract, by its four ways out. Assumes nothing.
use Prim.Native.Nat.{◌<◌}
use mathlib.Core.Path.{ap, ◌∙◌}
use native.Mathlib.Omega.{arith}
use lib.ListN.{length, get_or}
use Rattle.factor_select.proofs.Trails.{touch-room, touch-queued}
use Rattle.factor_select.proofs.search.touch.Goals as goal

pub offset_bounds-queue-tail : goal.offset_bounds-queue-tail
offset_bounds-queue-tail c =
    let room : c.args.tail < length c.args.queue.now = touch-room c.args.own _ _ _ _ _ _ _ c.requires (λ e. c.if-stamps-at.false (ap (λ x. get_or c.args.stamps.now x 0) c.index-at.ensures ∙ e)) c.if-cell-eq0.false in
    omega (arith, room, c.well_formed)

pub bounds-queue-tail : goal.bounds-queue-tail
bounds-queue-tail c =
    let room : c.args.tail < length c.args.queue.now = touch-room c.args.own _ _ _ _ _ _ _ c.requires (λ e. c.if-stamps-at.false (ap (λ x. get_or c.args.stamps.now x 0) c.index-at.ensures ∙ e)) c.if-cell-eq0.false in
    room

pub overflow_add-result : goal.overflow_add-result
overflow_add-result c =
    let room : c.args.tail < length c.args.queue.now = touch-room c.args.own _ _ _ _ _ _ _ c.requires (λ e. c.if-stamps-at.false (ap (λ x. get_or c.args.stamps.now x 0) c.index-at.ensures ∙ e)) c.if-cell-eq0.false in
    omega (arith, room, c.well_formed)

pub returns : goal.returns
returns c =
    rw c.index-at.ensures
    (touch-queued c.args.own _ _ _ _ _ _ _ c.requires (λ e. c.if-stamps-at.false (ap (λ x. get_or c.args.stamps.now x 0) c.index-at.ensures ∙ e)) c.if-cell-eq0.false)

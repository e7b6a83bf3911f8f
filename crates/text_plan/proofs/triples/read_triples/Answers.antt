-- `read_triples` meets its contract. The invariant: the lines that remain, after the triples seen, come to what all lines come to, and the lists hold the triples seen. Assumes nothing.
use mathlib.Core.Path.{refl, ap, ◌∙◌}
use native.Mathlib.Omega.{arith}
use lib.ListN.{length}
use Rattle.lists.proofs.Filled.{length-zeros}
use Rattle.limits.specs.Limits.{starts_length}
use Rattle.std.specs.Prelude.{Ok}
use Rattle.text_judge.specs.Judge.{verdict_of}
use Rattle.text_opening.proofs.Moduli.{modulus-two}
use Rattle.text_plan.proofs.EachLine.{line-end, has-feed, next_place}
use Rattle.text_plan.proofs.Progress.{progress-starts, shows-read, no_line, no-feed, is-refused, is-finished, not-finished, storable, goes_on}
use Rattle.text_plan.proofs.triples.read_triples.Goals as goal

pub loop-here-init : goal.loop-here-init
loop-here-init c =
    let z = c.requires.cleared in
    (progress-starts _ _ _ _ _ _ c.requires, ap length z.starts-zero ∙ length-zeros starts_length, refl, ap length z.values-zero ∙ length-zeros _)

pub overflow_add-here : goal.overflow_add-here
overflow_add-here c = let g = c.loop-here.invariant.0 in omega (arith, line-end g.limits c.line_from-l.ensures, g.limits.short)

pub returns-then-here-l : goal.returns-then-here-l
returns-then-here-l c = rw (no-feed c.loop-here.invariant.0 c.line_from-l.ensures c.if-here-l.true) refl

pub next_from-next-requires : goal.next_from-next-requires
next_from-next-requires c = has-feed c.loop-here.invariant.0.limits c.line_from-l.ensures c.if-here-l.false

pub judge_after-requires : goal.judge_after-requires
judge_after-requires c = omega (arith, modulus-two _ c.loop-here.invariant.0.limits.modulus)

pub returns-in-Err : goal.returns-in-Err
returns-in-Err c =
    let g = c.loop-here.invariant.0 in
    let ends = has-feed g.limits c.line_from-l.ensures c.if-here-l.false in
    rw (is-refused g c.line_from-l.ensures c.judge_after.ensures ends c.next_from-next.result c.next_from-next.ensures _ (ap verdict_of c.in-Err.is)) refl

pub returns-then-next-text : goal.returns-then-next-text
returns-then-next-text c =
    let g = c.loop-here.invariant.0 in
    let ends = has-feed g.limits c.line_from-l.ensures c.if-here-l.false in
    shows-read g _ (is-finished g c.line_from-l.ensures c.judge_after.ensures ends c.next_from-next.result c.next_from-next.ensures (ap verdict_of (c.in-Ok.is ∙ ap Ok c.in-Last.is)) c.if-next-text.true)

pub returns-in-Last : goal.returns-in-Last
returns-in-Last c =
    let g = c.loop-here.invariant.0 in
    let ends = has-feed g.limits c.line_from-l.ensures c.if-here-l.false in
    rw (not-finished g c.line_from-l.ensures c.judge_after.ensures ends c.next_from-next.result c.next_from-next.ensures (ap verdict_of (c.in-Ok.is ∙ ap Ok c.in-Last.is)) c.if-next-text.false) refl

pub store-count-requires : goal.store-count-requires
store-count-requires c =
    let g = c.loop-here.invariant.0 in
    let ends = has-feed g.limits c.line_from-l.ensures c.if-here-l.false in
    storable g c.line_from-l.ensures c.judge_after.ensures ends c.next_from-next.result c.next_from-next.ensures (ap verdict_of (c.in-Ok.is ∙ ap Ok c.in-Entry.is))

pub loop-here-smaller : goal.loop-here-smaller
loop-here-smaller c =
    let g = c.loop-here.invariant.0 in
    let ends = has-feed g.limits c.line_from-l.ensures c.if-here-l.false in
    omega (arith, ends.feed, next_place g.limits c.line_from-l.ensures ends c.next_from-next.result c.next_from-next.ensures)

pub loop-here-preserved : goal.loop-here-preserved
loop-here-preserved c =
    let g = c.loop-here.invariant.0 in
    let ends = has-feed g.limits c.line_from-l.ensures c.if-here-l.false in
    let h = c.loop-here.invariant in (
      goes_on g c.line_from-l.ensures c.judge_after.ensures ends c.next_from-next.result c.next_from-next.ensures (ap verdict_of (c.in-Ok.is ∙ ap Ok c.in-Entry.is)) _ _ _ _
          (c.store-count.ensures g.seen),
      h.1,
      h.2,
      h.3,
    )

pub returns : goal.returns
returns c = rw (no_line c.loop-here.invariant.0 c.loop-here-test.false) refl

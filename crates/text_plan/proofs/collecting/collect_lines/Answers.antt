-- `collect_lines` meets its contract. The invariant: the lines that remain, after the triples collected, come to what all lines come to, and the lists hold the triples collected. Assumes nothing.
use mathlib.Core.Path.{ap}
use native.Mathlib.Omega.{arith}
use Rattle.text_judge.specs.Sight.{seen_as}
use Rattle.text_opening.proofs.Moduli.{modulus-two}
use Rattle.text_plan.proofs.EachLine.{line-end, has-feed}
use Rattle.text_plan.proofs.Gathering.{looks, gathering-starts, takes_one, no_line, no-feed, goes_on, is-stopped, is-finished, placed-stands, placed-fails, cell_free, keepable, gathering-turn, is-failed}
use Rattle.text_plan.proofs.collecting.collect_lines.Goals as goal

pub loop-here-init : goal.loop-here-init
loop-here-init c = gathering-starts _ _ _ _ _ _ _ c.requires

pub overflow_add-here : goal.overflow_add-here
overflow_add-here c = let g = c.loop-here.invariant in omega (arith, line-end g.limits c.line_from-l.ensures, g.limits.short)

pub returns-then-here-l : goal.returns-then-here-l
returns-then-here-l c = no-feed c.loop-here.invariant c.line_from-l.ensures c.if-here-l.true

pub next_from-next-requires : goal.next_from-next-requires
next_from-next-requires c = has-feed c.loop-here.invariant.limits c.line_from-l.ensures c.if-here-l.false

pub sight_of-requires : goal.sight_of-requires
sight_of-requires c = omega (arith, modulus-two _ c.loop-here.invariant.limits.modulus)

pub returns-in-Stops : goal.returns-in-Stops
returns-in-Stops c =
    let g = c.loop-here.invariant in
    let looked = looks g c.next_from-next.result c.line_from-l.ensures c.if-here-l.false c.next_from-next.ensures c.line_of.ensures c.sight_of.ensures in
    is-stopped looked _ (ap seen_as c.in-Stops.is)

pub returns-in-Finishes : goal.returns-in-Finishes
returns-in-Finishes c =
    let g = c.loop-here.invariant in
    let looked = looks g c.next_from-next.result c.line_from-l.ensures c.if-here-l.false c.next_from-next.ensures c.line_of.ensures c.sight_of.ensures in
    is-finished looked (ap seen_as c.in-Finishes.is) _ c.after_last-ended.ensures

pub keep-requires : goal.keep-requires
keep-requires c =
    let g = c.loop-here.invariant in
    let looked = looks g c.next_from-next.result c.line_from-l.ensures c.if-here-l.false c.next_from-next.ensures c.line_of.ensures c.sight_of.ensures in
    keepable looked (placed-stands looked (ap seen_as c.in-Stands.is))

pub overflow_add-stored : goal.overflow_add-stored
overflow_add-stored c =
    let g = c.loop-here.invariant in
    let looked = looks g c.next_from-next.result c.line_from-l.ensures c.if-here-l.false c.next_from-next.ensures c.line_of.ensures c.sight_of.ensures in
    omega (arith, takes_one c.in-Stands.v _ c.taken-stored.ensures, g.stored-few, cell_free looked (placed-stands looked (ap seen_as c.in-Stands.is)))

pub keep-requires-in-Fails : goal.keep-requires-in-Fails
keep-requires-in-Fails c =
    let g = c.loop-here.invariant in
    let looked = looks g c.next_from-next.result c.line_from-l.ensures c.if-here-l.false c.next_from-next.ensures c.line_of.ensures c.sight_of.ensures in
    keepable looked (placed-fails looked (ap seen_as c.in-Fails.is))

pub overflow_add-count : goal.overflow_add-count
overflow_add-count c =
    let g = c.loop-here.invariant in
    let looked = looks g c.next_from-next.result c.line_from-l.ensures c.if-here-l.false c.next_from-next.ensures c.line_of.ensures c.sight_of.ensures in
    omega (arith, cell_free looked (placed-fails looked (ap seen_as c.in-Fails.is)))

pub returns-in-Fails : goal.returns-in-Fails
returns-in-Fails c =
    let g = c.loop-here.invariant in
    let looked = looks g c.next_from-next.result c.line_from-l.ensures c.if-here-l.false c.next_from-next.ensures c.line_of.ensures c.sight_of.ensures in
    is-failed looked (placed-fails looked (ap seen_as c.in-Fails.is)) (ap seen_as c.in-Fails.is) _ _ _ c.keep-in-Fails.ensures

pub overflow_add-count-in-loop-here : goal.overflow_add-count-in-loop-here
overflow_add-count-in-loop-here c =
    let g = c.loop-here.invariant in
    let looked = looks g c.next_from-next.result c.line_from-l.ensures c.if-here-l.false c.next_from-next.ensures c.line_of.ensures c.sight_of.ensures in
    omega (arith, cell_free looked (placed-stands looked (ap seen_as c.in-Stands.is)))

pub loop-here-smaller : goal.loop-here-smaller
loop-here-smaller c =
    let g = c.loop-here.invariant in
    let looked = looks g c.next_from-next.result c.line_from-l.ensures c.if-here-l.false c.next_from-next.ensures c.line_of.ensures c.sight_of.ensures in
    omega (arith, goes_on looked, looked.ends.feed)

pub loop-here-preserved : goal.loop-here-preserved
loop-here-preserved c =
    let g = c.loop-here.invariant in
    let looked = looks g c.next_from-next.result c.line_from-l.ensures c.if-here-l.false c.next_from-next.ensures c.line_of.ensures c.sight_of.ensures in
    gathering-turn looked (placed-stands looked (ap seen_as c.in-Stands.is)) _ c.keep.ensures (ap seen_as c.in-Stands.is) _ c.taken-stored.ensures

pub returns : goal.returns
returns c = no_line c.loop-here.invariant c.loop-here-test.false

-- `end_in` meets its contract; the loop's invariant is `Walking`, the measure what is left. Assumes nothing.
use mathlib.Core.Path.{sym, ◌∙◌}
use native.Mathlib.Omega.{arith}
use Rattle.text_owners.proofs.Ends.{walking-starts, walking-ends, line-inside, no-feed, found, walking-turn}
use Rattle.text_owners.proofs.ending.end_in.Goals as goal

pub loop-at-init : goal.loop-at-init
loop-at-init c = walking-starts _

pub piece-l-requires : goal.piece-l-requires
piece-l-requires c = c.loop-at.invariant.inside

pub overflow_add-end : goal.overflow_add-end
overflow_add-end c = omega (arith, line-inside _ _ _ c.loop-at.invariant _ c.piece-l.ensures)

pub returns-then-end-text : goal.returns-then-end-text
returns-then-end-text c = no-feed _ _ _ c.loop-at.invariant _ c.piece-l.ensures c.if-end-text.true

pub overflow_add-at : goal.overflow_add-at
overflow_add-at c = omega (arith, line-inside _ _ _ c.loop-at.invariant _ c.piece-l.ensures)

pub overflow_add-line : goal.overflow_add-line
overflow_add-line c = omega (arith, c.loop-at.invariant.numbered, c.loop-at-test.true, c.requires)

pub returns-then-is_last : goal.returns-then-is_last
returns-then-is_last c = found _ _ _ c.loop-at.invariant _ c.piece-l.ensures c.if-end-text.false (sym c.if-is_last.true ∙ c.is_last.ensures)

pub loop-at-smaller : goal.loop-at-smaller
loop-at-smaller c = omega (arith, line-inside _ _ _ c.loop-at.invariant _ c.piece-l.ensures)

pub loop-at-preserved : goal.loop-at-preserved
loop-at-preserved c = walking-turn _ _ _ c.loop-at.invariant _ c.piece-l.ensures c.if-end-text.false (sym c.if-is_last.false ∙ c.is_last.ensures)

pub returns : goal.returns
returns c = walking-ends _ _ _ c.loop-at.invariant (omega arith)

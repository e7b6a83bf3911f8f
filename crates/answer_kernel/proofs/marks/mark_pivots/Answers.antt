-- `mark_pivots` meets its contract; the loop's invariant is `Marking`: the first k columns of the order are marked. Assumes nothing.
use mathlib.Core.Path.{◌∙◌}
use native.Mathlib.Omega.{arith}
use Rattle.answer_kernel.proofs.MarkLoop.{marking-starts, marking-turn}
use Rattle.answer_kernel.proofs.marks.mark_pivots.Goals as goal

pub loop-k-init : goal.loop-k-init
loop-k-init c = marking-starts _ _ _ c.requires

pub loop-k-preserved : goal.loop-k-preserved
loop-k-preserved c =
    marking-turn _ _ _ _ c.loop-k.k _ c.requires (omega arith) (c.index-c.ensures ∙ c.at.ensures.value) c.loop-k.invariant

-- `put_values` meets its contract; the loop keeps that storing the values that remain completes the buffer. Assumes nothing.
use lib.ListN.{get_or}
use Rattle.byte_buffer.proofs.Remaining.{turns-start, turn-room, turns-after, turns-end}
use Rattle.print_text.specs.Labels.{space}
use Rattle.print_text.specs.Lines.{labelled}
use Rattle.print_text.proofs.Stepping.{values-step, values-end}
use Rattle.print_text.proofs.values.put_values.Goals as goal

pub loop-value-init : goal.loop-value-init
loop-value-init c = turns-start _ _ _ _ c.requires

pub put_labelled-next-requires : goal.put_labelled-next-requires
put_labelled-next-requires c = turn-room c.loop-value.invariant (labelled space (get_or c.args.values.now c.loop-value.value-index 0)) (values-step _ _ c.loop-value-test.true)

pub loop-value-preserved : goal.loop-value-preserved
loop-value-preserved c = turns-after c.loop-value.invariant c.loop-value-test.true (values-step _ _ c.loop-value-test.true) c.put_labelled-next.ensures

pub returns : goal.returns
returns c = turns-end c.loop-value.invariant (values-end _ _ c.loop-value-test.false)

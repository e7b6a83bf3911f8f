-- `forward` meets its contract; the loop's invariant is `Forwarding`: the first k values are found. Assumes nothing.
use mathlib.Core.Path.{ap, ◌∙◌}
use native.Mathlib.Omega.{arith}
use Rattle.algebra.specs.Matrix.{vector}
use Rattle.column_space.specs.Slots.{in_order}
use Rattle.answer_slots.proofs.ForwardLoop.{forwarding-starts, forwarding-small, forwarding-turn, forwarding-ends, slot-below}
use Rattle.answer_slots.proofs.forward.forward.Goals as goal

pub loop-k-init : goal.loop-k-init
loop-k-init c = forwarding-starts _ _ _ _ c.requires.clear

pub bounds-h-slot : goal.bounds-h-slot
bounds-h-slot c =
    let l = c.loop-k in
    omega (
      arith,
      c.index-slot.ensures ∙ c.at.ensures.value,
      slot-below c.args.q.p _ c.args.ro.now _ _ c.requires l.k (omega (arith, l.invariant.long)),
    )

pub forward_value-requires : goal.forward_value-requires
forward_value-requires c =
    let l = c.loop-k in
    record {
      prime = c.requires.prime;
      formed = rw l.invariant.long c.requires.formed;
      rows = omega (arith, l.invariant.long, c.requires.rows);
      shaped = rw l.invariant.long c.requires.shaped;
      inside = omega arith;
      small = forwarding-small _ _ _ _ _ _ l.invariant (omega (arith, c.requires.prime.two));
      residue =
          c.requires.small c.index-slot.result
          (omega (
            arith,
            c.index-slot.ensures ∙ c.at.ensures.value,
            slot-below c.args.q.p _ c.args.ro.now _ _ c.requires l.k (omega (arith, l.invariant.long)),
          ));
    }

pub loop-k-preserved : goal.loop-k-preserved
loop-k-preserved c =
    let l = c.loop-k in
    forwarding-turn c.args.q.p _ (in_order (vector c.args.ro.now) (vector c.args.h.now)) _ l.t l.k l.invariant
    _ c.forward_value.result (omega (arith, l.invariant.long)) (ap (vector c.args.h.now) (c.index-slot.ensures ∙ c.at.ensures.value)) c.forward_value.ensures.value

pub returns : goal.returns
returns c = let l = c.loop-k in forwarding-ends _ _ _ _ _ _ l.invariant (omega (arith, l.invariant.long))

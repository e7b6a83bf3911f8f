use mathlib.Core.Path.{refl, sym, ◌∙◌}
use native.Mathlib.Omega.{arith}
use lib.ListN.{length-set}
use Rattle.check_shape.proofs.Marks.{marked-zeros, marked-high, marked-twice, marked-on, marked-end}
use Rattle.check_shape.proofs.order.mark_all.Goals as goal

pub loop-i-init : goal.loop-i-init
loop-i-init c = (refl, marked-zeros c.args.n c.args.mark.now c.args.list.now c.requires.0 c.requires.1 c.requires.2)

pub returns-then-n-v : goal.returns-then-n-v
returns-then-n-v c = sym (marked-high c.args.n c.loop-i.mark c.args.list.now c.loop-i.i c.at-v.result (omega arith) c.at-v.ensures.value c.if-n-v.true) ∙ c.loop-i.invariant.1

pub returns-then-mark-v-ne0 : goal.returns-then-mark-v-ne0
returns-then-mark-v-ne0 c = sym (marked-twice c.args.n c.loop-i.mark c.args.list.now c.loop-i.i c.at-v.result (omega arith) c.at-v.ensures.value c.if-n-v.false c.if-mark-v-ne0.true) ∙ c.loop-i.invariant.1

pub loop-i-preserved : goal.loop-i-preserved
loop-i-preserved c = (length-set c.loop-i.mark c.at-v.result 1 ∙ c.loop-i.invariant.0, sym (marked-on c.args.n c.loop-i.mark c.args.list.now c.loop-i.i c.at-v.result (omega arith) c.at-v.ensures.value c.if-n-v.false c.if-mark-v-ne0.false) ∙ c.loop-i.invariant.1)

pub returns : goal.returns
returns c = sym (marked-end c.args.n c.loop-i.mark c.args.list.now c.loop-i.i (omega arith) (omega arith)) ∙ c.loop-i.invariant.1

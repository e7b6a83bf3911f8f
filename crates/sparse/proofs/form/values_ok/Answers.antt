-- `values_ok` meets its contract.
use Rattle.std.proofs.Common.{refl, sym, ◌∙◌, arith}
use Rattle.sparse.proofs.Forms.{values-zero, values-high, values-on, values-end}
use Rattle.sparse.proofs.form.values_ok.Goals as goal

pub loop-i-init : goal.loop-i-init
loop-i-init c = refl

pub returns-then-v-eq0 : goal.returns-then-v-eq0
returns-then-v-eq0 c = sym (values-zero c.args.p c.args.vals.now c.loop-i.i c.at-v.result (omega arith) c.at-v.ensures.value c.if-v-eq0.true) ∙ c.loop-i.invariant

pub returns-then-p-v : goal.returns-then-p-v
returns-then-p-v c = sym (values-high c.args.p c.args.vals.now c.loop-i.i c.at-v.result (omega arith) c.at-v.ensures.value c.if-v-eq0.false c.if-p-v.true) ∙ c.loop-i.invariant

pub loop-i-preserved : goal.loop-i-preserved
loop-i-preserved c = sym (values-on c.args.p c.args.vals.now c.loop-i.i c.at-v.result (omega arith) c.at-v.ensures.value c.if-v-eq0.false c.if-p-v.false) ∙ c.loop-i.invariant

pub returns : goal.returns
returns c = sym (values-end c.args.p c.args.vals.now c.loop-i.i (omega arith) (omega arith)) ∙ c.loop-i.invariant

-- `rises` meets its contract.
use mathlib.Core.Path.{refl, sym, ◌∙◌}
use native.Mathlib.Omega.{arith}
use Rattle.sparse.proofs.Forms.{rises-low, rises-wide, rises-on, rises-end}
use Rattle.sparse.proofs.form.rises.Goals as goal

pub loop-i-init : goal.loop-i-init
loop-i-init c = (c.requires.0, refl)

pub returns-then-c-low : goal.returns-then-c-low
returns-then-c-low c = sym (rises-low c.args.width c.loop-i.low c.args.cols.now c.loop-i.i c.args.e c.at-c.result c.loop-i-test.true c.requires.1 c.at-c.ensures.value c.if-c-low.true) ∙ c.loop-i.invariant.1

pub returns-then-width-c : goal.returns-then-width-c
returns-then-width-c c = sym (rises-wide c.args.width c.loop-i.low c.args.cols.now c.loop-i.i c.args.e c.at-c.result c.loop-i-test.true c.requires.1 c.at-c.ensures.value c.if-c-low.false c.if-width-c.true) ∙ c.loop-i.invariant.1

pub loop-i-preserved : goal.loop-i-preserved
loop-i-preserved c = (omega arith, sym (rises-on c.args.width c.loop-i.low c.args.cols.now c.loop-i.i c.args.e c.at-c.result c.loop-i-test.true c.requires.1 c.at-c.ensures.value c.if-c-low.false c.if-width-c.false) ∙ c.loop-i.invariant.1)

pub returns : goal.returns
returns c = sym (rises-end c.args.width c.loop-i.low c.args.cols.now c.loop-i.i c.args.e c.loop-i.invariant.0 c.loop-i-test.false) ∙ c.loop-i.invariant.1

-- `starts_from` meets its contract.
use Rattle.std.proofs.Common.{refl, sym, ◌∙◌, arith}
use Rattle.sparse.proofs.Forms.{starts-falls, starts-on, starts-end}
use Rattle.sparse.proofs.form.starts_from.Goals as goal

pub loop-i-init : goal.loop-i-init
loop-i-init c = (omega arith, refl)

pub returns-then-s-from : goal.returns-then-s-from
returns-then-s-from c = sym (starts-falls c.args.total c.loop-i.from c.args.starts.now c.loop-i.i c.at-s.result (omega arith) c.at-s.ensures.value c.if-s-from.true) ∙ c.loop-i.invariant.1

pub loop-i-preserved : goal.loop-i-preserved
loop-i-preserved c = (omega arith, sym (starts-on c.args.total c.loop-i.from c.args.starts.now c.loop-i.i c.at-s.result (omega arith) c.at-s.ensures.value c.if-s-from.false) ∙ c.loop-i.invariant.1)

pub returns : goal.returns
returns c = sym (starts-end c.args.total c.loop-i.from c.args.starts.now c.loop-i.i (omega arith) (omega arith)) ∙ c.loop-i.invariant.1

-- `starts_ok` meets its contract.
use mathlib.Core.Path.{sym, ◌∙◌}
use native.Mathlib.Omega.{arith}
use Rattle.sparse.proofs.Forms.{starts_none, starts_first, starts-rest}
use Rattle.sparse.proofs.form.starts_ok.Goals as goal

pub returns-then-n-eq0 : goal.returns-then-n-eq0
returns-then-n-eq0 c = sym (starts_none c.args.total c.args.starts.now (sym c.len-n.ensures ∙ c.if-n-eq0.true))

pub returns-then-first-ne0 : goal.returns-then-first-ne0
returns-then-first-ne0 c = sym (starts_first c.args.total c.args.starts.now c.at-first.result c.at-first.ensures.value c.if-first-ne0.true)

pub starts_from-requires : goal.starts_from-requires
starts_from-requires c = omega (arith, c.if-n-eq0.false, c.len-n.ensures)

pub returns : goal.returns
returns c = c.starts_from.ensures ∙ sym (starts-rest c.args.total c.args.starts.now c.at-first.result c.at-first.ensures.value c.if-first-ne0.false (λ e. c.if-n-eq0.false (c.len-n.ensures ∙ e)))

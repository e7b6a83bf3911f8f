-- `preferred` meets its contract. Assumes nothing.
use native.Mathlib.Omega.{arith}
use Rattle.factor_order.proofs.Choosing.{preferred-first, preferred-new, preferred-old}
use Rattle.factor_order.proofs.pairs.preferred.Goals as goal

pub returns-then-cell-eq0 : goal.returns-then-cell-eq0
returns-then-cell-eq0 c = let a = c.args in preferred-first _ a.i a.cell c.if-cell-eq0.true

pub returns-then-entries : goal.returns-then-entries
returns-then-entries c =
    let a = c.args in
    preferred-new _ a.i a.cell c.if-cell-eq0.false (omega (arith, c.entries.ensures, c.entries-2.ensures, c.if-entries.true))

pub returns : goal.returns
returns c = preferred-old _ c.args.i c.args.cell c.if-cell-eq0.false c.requires.before (omega (arith, c.entries.ensures, c.entries-2.ensures, c.if-entries.false))

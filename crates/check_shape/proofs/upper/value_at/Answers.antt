use mathlib.Core.Path.{sym, ◌∙◌}
use native.Mathlib.Omega.{arith}
use Rattle.check_shape.proofs.RowTests.{entry_found, entry-none}
use Rattle.check_shape.proofs.upper.value_at.Goals as goal

pub returns-then-at-j : goal.returns-then-at-j
returns-then-at-j c =
    let l = c.loop-i in
    c.at-then-at-j.ensures.value ∙ entry_found c.args.p c.args.width c.args.a c.args.e _ _ l.i c.args.j c.requires.3 (omega arith) (omega arith) c.requires.1 (sym c.if-at-j.true ∙ c.at.ensures.value)

pub returns : goal.returns
returns c = let l = c.loop-i in entry-none c.args.a c.args.e _ _ c.args.j c.requires.1 (λ t h g. l.invariant t h (omega arith))

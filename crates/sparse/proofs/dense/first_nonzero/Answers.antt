-- `first_nonzero` meets its contract; every cell passed stands for 0, the measure is what is left. Assumes nothing.
use mathlib.Core.Path.{◌≡◌, sym, ◌∙◌}
use native.Mathlib.Omega.{arith}
use lib.ListN.{length}
use Rattle.lists.proofs.Tests.{first-all, first-fails}
use Rattle.sparse.proofs.dense.first_nonzero.Goals as goal

pub returns-then-not-is_zero : goal.returns-then-not-is_zero
returns-then-not-is_zero c =
    let h = c.loop-j in
    sym (first-fails _ _ h.j (omega arith) h.invariant.1 (sym c.is_zero.ensures ∙ c.if-not-is_zero.true))

pub returns : goal.returns
returns c =
    let h = c.loop-j in
    let e : h.j ≡ length c.args.work.now = omega arith in
    e ∙ sym (first-all _ _ (λ k l. h.invariant.1 k (omega arith)))

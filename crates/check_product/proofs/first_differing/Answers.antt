use Prim.Native.Nat.{ℕ}
use mathlib.Core.Path.{◌≡◌, sym, ap, ◌∙◌}
use mathlib.Core.List.{List}
use native.Mathlib.Omega.{arith}
use lib.ListN.{length}
use Rattle.lists.proofs.Tests.{first-fails, first-all}
use Rattle.algebra.specs.Matrix.{vector}
use Rattle.sparse.specs.Matrix.{matrix}
use Rattle.pluq.specs.Judge.{agrees}
use Rattle.check_product.proofs.first_differing.Goals as goal

pub returns-then-not-row_agrees : goal.returns-then-not-row_agrees
returns-then-not-row_agrees c =
    let test : c.row_agrees.result ≡ agrees c.args.q.p (length c.args.work.now) c.args.r (matrix c.args.plan.now) (vector c.args.ro.now) (matrix c.args.l.now) (matrix c.args.u.now) c.loop-i.i = c.row_agrees.ensures.0 ∙ ap (λ (w : List ℕ). agrees c.args.q.p (length w) c.args.r (matrix c.args.plan.now) (vector c.args.ro.now) (matrix c.args.l.now) (matrix c.args.u.now) c.loop-i.i) c.loop-i.invariant.same in
    let l = c.loop-i in
    (sym (first-fails _ _ l.i (omega arith) l.invariant.passed (sym (test) ∙ c.if-not-row_agrees.true)), c.row_agrees.ensures.1 ∙ l.invariant.same)

pub returns : goal.returns
returns c = let l = c.loop-i in (sym (first-all _ _ (λ k h. l.invariant.passed k (omega arith))), l.invariant.same)

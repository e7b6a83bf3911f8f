-- `store_multiples` meets its contract; the loop's invariant is `StoringSoFar`. Assumes nothing.
use Prim.Native.Nat.{◌<◌}
use mathlib.Core.Path.{◌≡◌}
use borrow.Author.Rules.{rules}
use native.Mathlib.Omega.{arith}
use lib.ListN.{length}
use lib.Seq.{get_or-take, length-take-le}
use Rattle.factor_dense.proofs.StoringSteps.{storing-starts, storing-turn, storing-over}
use Rattle.factor_dense.proofs.storing.store_multiples.Goals as goal

pub loop-t-init : goal.loop-t-init
loop-t-init c =
    let long : length c.args.xs ≡ 32 = search rules in
    storing-starts _ _ _ _ _ _ _ c.requires (long)

pub returns-then-over : goal.returns-then-over
returns-then-over c =
    let long : length c.args.xs ≡ 32 = search rules in
    let inside : c.loop-t.t < c.args.b = omega (arith, c.loop-t-test.true, length-take-le c.args.b c.args.xs (omega (arith, c.requires.rows))) in
    storing-over _ _ _ _ _ _ _ c.requires (long) _ _ _ _ c.loop-t.invariant (inside) _ _ _ _ (rw (get_or-take c.args.b c.args.xs c.loop-t.t 0 inside) at c.store_entry-g.ensures) c.if-over.true _ _ _

pub loop-t-preserved : goal.loop-t-preserved
loop-t-preserved c =
    let long : length c.args.xs ≡ 32 = search rules in
    let inside : c.loop-t.t < c.args.b = omega (arith, c.loop-t-test.true, length-take-le c.args.b c.args.xs (omega (arith, c.requires.rows))) in
    storing-turn _ _ _ _ _ _ _ c.requires (long) _ _ _ _ c.loop-t.invariant (inside) _ _ _ _ (rw (get_or-take c.args.b c.args.xs c.loop-t.t 0 inside) at c.store_entry-g.ensures) c.if-over.false

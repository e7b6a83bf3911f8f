-- `store_left` meets its contract; the loop's invariant is `LeftSoFar`. Assumes nothing.
use Rattle.std.proofs.Common.{length-append}
use Prim.Native.Nat.{◌<◌}
use mathlib.Core.Path.{◌≡◌, ◌∙◌}
use borrow.Author.Rules.{rules}
use native.Mathlib.Omega.{arith}
use lib.ListN.{length, take, get_or}
use lib.Seq.{get_or-take, length-take-le}
use Rattle.std.proofs.lemmas.Slice.Zip.{zip_turn}
use Rattle.factor_dense.proofs.LeftSteps.{left-starts, left-ready, left-turn, left_over}
use Rattle.factor_dense.proofs.storing.store_left.Goals as goal
use Rattle.factor_dense.proofs.storing.store_left.Goals.{Start, In-Some}

wide : (c : Start) → (length c.args.row ≡ 32) × (length c.args.js ≡ 32)
wide c = search rules

-- the column and the value of a turn are those at its place
here : (c : In-Some) → let t = length c.loop-column.yielded in (t < c.args.width) × (c.in-Some.field-0-0.now ≡ get_or c.args.js t 0) × (c.in-Some.field-0-1.now ≡ get_or c.args.row t 0)
here c =
    let t = length c.loop-column.yielded in
    let turn = zip_turn (take c.args.width c.args.js) (take c.args.width c.args.row) c.loop-column.yielded c.into_iter-column-iterator.result _ c.next.new.self _ (search rules) (search rules) c.loop-column.yielded_by _ c.in-Some.is c.next.ensures.steps in
    let inside : t < c.args.width = omega (arith, turn.0, length-take-le c.args.width c.args.js (omega (arith, c.requires.rows))) in
    (inside, turn.2 0 ∙ get_or-take c.args.width c.args.js t 0 inside, turn.3 0 ∙ get_or-take c.args.width c.args.row t 0 inside)

pub loop-column-init : goal.loop-column-init
loop-column-init c =
    let w = wide (goal.at.loop-column-init c).Start in
    left-starts _ _ _ _ _ _ _ c.requires w.0 w.1

pub store_entry-g-requires : goal.store_entry-g-requires
store_entry-g-requires c =
    let w = wide (goal.at.store_entry-g-requires c).Start in
    let h = here (goal.at.store_entry-g-requires c).In-Some in
    left-ready _ _ _ _ _ _ _ c.requires w.0 w.1 _ _ _ _ c.loop-column.invariant h.0 _ (c.index.ensures ∙ h.1)

pub returns-then-over : goal.returns-then-over
returns-then-over c =
    let w = wide (goal.at.returns-then-over c).Start in
    let h = here (goal.at.returns-then-over c).In-Some in
    left_over _ _ _ _ _ _ _ c.requires w.0 w.1 _ _ _ _ c.loop-column.invariant h.0 _ (c.index.ensures ∙ h.1) _ _ _ _ (rw h.2 at c.store_entry-g.ensures) c.if-over.true _ _ _

pub loop-column-preserved : goal.loop-column-preserved
loop-column-preserved c =
    let w = wide (goal.at.loop-column-preserved c).Start in
    let h = here (goal.at.loop-column-preserved c).In-Some in
    rw length-append (left-turn _ _ _ _ _ _ _ c.requires w.0 w.1 _ _ _ _ c.loop-column.invariant h.0 _ (c.index.ensures ∙ h.1) _ _ _ _ (rw h.2 at c.store_entry-g.ensures) c.if-over.false)

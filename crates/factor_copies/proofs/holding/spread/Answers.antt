-- `spread` meets its contract; the loop's invariant is `SpreadTo`. Assumes nothing.
use Rattle.std.proofs.Common.{rules, length-append}
use mathlib.Core.Path.{◌∙◌}
use native.Mathlib.Omega.{arith}
use Rattle.std.proofs.lemmas.Slice.Zip.{zip_turn, zip_end}
use Rattle.factor_copies.proofs.SpreadLaws.{spread-ends, spread-turn}
use Rattle.factor_copies.proofs.holding.spread.Goals as goal

pub loop-column-preserved : goal.loop-column-preserved
loop-column-preserved c =
    let turn = zip_turn c.args.cols.now c.args.vals.now c.loop-column.yielded c.into_iter-column-iterator.result _ c.next.new.self _ (search rules) (search rules) c.loop-column.yielded_by _ c.in-Some.is c.next.ensures.steps in
    rw length-append (spread-turn _ _ _ _ _ c.requires _ _ _ _ turn.0 (c.index.ensures ∙ turn.2 0) (turn.3 0) c.loop-column.invariant)

pub returns : goal.returns
returns c =
    let whole = zip_end c.args.cols.now c.args.vals.now c.loop-column.yielded c.into_iter-column-iterator.result _ c.next.new.self _ (search rules) (search rules) c.loop-column.yielded_by c.in-None.is c.next.ensures.steps in
    spread-ends _ _ _ _ _ _ _ (omega (arith, whole, c.requires.paired)) c.loop-column.invariant

use mathlib.Core.Path.{◌≡◌, refl, sym, ◌∙◌}
use native.Mathlib.Omega.{arith}
use lib.ListN.{get_or}
use Rattle.check_shape.proofs.RowTests.{clean-dirty, clean-on, clean_end}
use Rattle.check_shape.proofs.upper.unmarked.Goals as goal

pub returns-then-work-c-ne0 : goal.returns-then-work-c-ne0
returns-then-work-c-ne0 c =
    let place : c.index-c.result ≡ get_or c.args.cols.now c.loop-i.i 0 = c.index-c.ensures ∙ c.at.ensures.value in
    let l = c.loop-i in
    (sym (clean-dirty c.args.work.now c.args.cols.now l.i c.args.e c.index-c.result (omega arith) c.requires.1 (place) c.if-work-c-ne0.true) ∙ l.invariant, refl)

pub loop-i-preserved : goal.loop-i-preserved
loop-i-preserved c =
    let place : c.index-c.result ≡ get_or c.args.cols.now c.loop-i.i 0 = c.index-c.ensures ∙ c.at.ensures.value in
    let l = c.loop-i in
    sym (clean-on c.args.work.now c.args.cols.now l.i c.args.e c.index-c.result (omega arith) c.requires.1 (place) (omega arith)) ∙ l.invariant

pub returns : goal.returns
returns c = let l = c.loop-i in (sym (clean_end _ _ l.i _ (omega arith) (omega arith)) ∙ l.invariant, refl)

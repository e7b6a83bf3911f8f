-- `take_dense` meets its contract: each way out is a law of `DenseRows`. Assumes nothing.
use mathlib.Core.Path.{◌≡◌, refl, ap}
use borrow.Author.Rules.{rules}
use lib.ListN.{length}
use Rattle.factor_dense.specs.declared.taking.DenseStep.{DenseStep}
use Rattle.factor_dense.proofs.DenseRows.{first-over, block-over, block-nothing, upper-ready, block-pivot-row}
use Rattle.factor_dense.proofs.taking.take_dense.Goals as goal

pub returns-then-left : goal.returns-then-left
returns-then-left c = first-over _ _ _ _ _ _ _ _ _ _ _ _ _ _ _ _ _ _ _ _ c.requires _ _ _ _ c.reduce_left-left.ensures c.if-left.true _ _ _ _ _ _ (ap (λ (d : DenseStep). d.step.over) c.dense_step.ensures)

pub returns-then-d : goal.returns-then-d
returns-then-d c = block-over _ _ _ _ _ _ _ _ _ _ _ _ _ _ _ _ _ _ _ _ c.requires _ _ _ _ c.reduce_left-left.ensures c.if-left.false _ refl _ _ _ c.lower_left-d.ensures c.if-d.true _ _ _ _ _ _ (ap (λ (d : DenseStep). d.step.over) c.dense_step-then-d.ensures)

pub returns-then-k-eq32 : goal.returns-then-k-eq32
returns-then-k-eq32 c = block-nothing _ _ _ _ _ _ _ _ _ _ _ _ _ _ _ _ _ _ _ _ c.requires _ _ _ _ c.reduce_left-left.ensures c.if-left.false _ refl _ _ _ c.lower_left-d.ensures c.if-d.false _ c.first_left-k.ensures c.if-k-eq32.true _ _ refl refl _ _ _ c.dense_step-then-k-eq32.ensures

pub upper_left-requires : goal.upper_left-requires
upper_left-requires c = upper-ready _ _ _ _ _ _ _ _ _ _ _ _ _ _ _ _ _ _ _ _ c.requires _ _ _ _ c.reduce_left-left.ensures c.if-left.false _ refl _ _ _ c.lower_left-d.ensures c.if-d.false _ c.first_left-k.ensures c.if-k-eq32.false _ refl

pub returns : goal.returns
returns c =
    let long : length c.args.js ≡ 32 = search rules in
    block-pivot-row _ _ _ _ _ _ _ _ _ _ _ _ _ _ _ _ _ _ _ _ c.requires _ _ _ _ c.reduce_left-left.ensures c.if-left.false _ refl _ _ _ c.lower_left-d.ensures c.if-d.false _ c.first_left-k.ensures c.if-k-eq32.false _ refl _ _ _ _ _ c.upper_left.ensures (long)

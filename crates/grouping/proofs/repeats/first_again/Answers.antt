use Rattle.std.proofs.Common.{◌≡◌, ◌∙◌, ap, arith, sym, take, ℕ}
use Rattle.std.specs.Slice.Iter.{windows_rest}
use Rattle.grouping.proofs.Walks.{step_same, step_other, no_pair}
use Rattle.grouping.proofs.repeats.first_again.Goals as goal

pub loop-pair-preserved-then-same_place : goal.loop-pair-preserved-then-same_place
loop-pair-preserved-then-same_place c =
    let o = c.loop-pair in
    let rest = windows_rest o.pair-iterator in
    let s = c.in-Some.ensures.steps in
    let pair : c.in-Some.pair.now ≡ take 2 (rest) = s.1.1 ∙ ap (λ (n : ℕ). take n (rest)) o.invariant.pairs in
    record {
      pairs = s.0 ∙ o.invariant.pairs;
      going = step_same _ o.d _ (rest) _ c.in-Some.pair.now (omega (arith, s.1.0)) (pair) s.1.2 (sym c.if-same_place.true ∙ c.same_place.ensures) (omega arith) ∙ o.invariant.going;
    }

pub loop-pair-preserved : goal.loop-pair-preserved
loop-pair-preserved c =
    let o = c.loop-pair in
    let rest = windows_rest o.pair-iterator in
    let s = c.in-Some.ensures.steps in
    let pair : c.in-Some.pair.now ≡ take 2 (rest) = s.1.1 ∙ ap (λ (n : ℕ). take n (rest)) o.invariant.pairs in
    record {
      pairs = s.0 ∙ o.invariant.pairs;
      going = step_other _ o.d (rest) _ c.in-Some.pair.now (omega (arith, s.1.0)) (pair) s.1.2 (sym c.if-same_place.false ∙ c.same_place.ensures) ∙ o.invariant.going;
    }

pub returns : goal.returns
returns c = let s = c.in-None.ensures.steps in sym (no_pair _ _ (windows_rest c.loop-pair.pair-iterator) (omega arith)) ∙ c.loop-pair.invariant.going

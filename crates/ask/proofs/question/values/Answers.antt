-- `values` meets its contract; the loop's invariant is `Going`: the values of the fields so far are kept. Assumes nothing.
use Rattle.std.proofs.Common.{rules, tests}
use Rattle.std.proofs.lemmas.Iterator.Splits.{YieldsList-from_slice_split}
use Rattle.std.proofs.lemmas.Iterator.Consumers.{YieldsList-end}
use Rattle.ask.specs.Values.{is_separator}
use Rattle.ask.proofs.Cutting.{going-ends}
use Rattle.ask.proofs.question.values.Goals as goal

pub returns : goal.returns
returns c =
    let end = YieldsList-end (YieldsList-from_slice_split _ is_separator c.args.text.now (cc) (cc) (cc) (λ x b q k. search (rules, tests))) c.loop-field.yielded _ c.loop-field.yielded_by _ _ c.in-None.is c.next.ensures.steps in
    going-ends _ _ _ _ _ end.0 c.loop-field.invariant

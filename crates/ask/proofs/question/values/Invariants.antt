-- `values` meets its contract; the loop's invariant is `Going`: the values of the fields so far are kept. Assumes nothing.
use Rattle.std.proofs.Common.{map}
use Rattle.ask.proofs.Cutting.{Going}
use Rattle.ask.proofs.question.values.Given as goal

abbrev pub invariant-loop-field : goal.invariant-loop-field
invariant-loop-field l = Going l.initial.y l.y l.count (map (λ f. f.now) l.yielded)

-- `fill_places` meets its contract; the loop's invariant is `Filling`. Assumes nothing.
use Rattle.factor_others.proofs.Places.{Filling}
use Rattle.factor_others.proofs.rows.fill_places.Given as goal

abbrev pub invariant-loop-k : goal.invariant-loop-k
invariant-loop-k l = Filling l.fn.s l.fn.co l.initial.place l.place l.k

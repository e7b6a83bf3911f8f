-- `plan_end` meets its contract. Assumes nothing.
use native.Mathlib.Omega.{arith}
use Rattle.ask.proofs.Ends.{ends}
use Rattle.ask.proofs.text.plan_end.Goals as goal

pub overflow_add-result : goal.overflow_add-result
overflow_add-result c = omega (arith, (ends _ _ _ c.end_in-end.ensures.end_is c.end_in-end.ensures.inside c.owners_end.ensures).inside, c.requires)

pub returns : goal.returns
returns c = ends _ _ _ c.end_in-end.ensures.end_is c.end_in-end.ensures.inside c.owners_end.ensures

-- `read_cut` meets its contract: the plan before the place is read, and then what follows it. Assumes nothing.
use mathlib.Core.Path.{refl, sym, ap, ◌∙◌}
use lib.Seq.{length-take-le}
use Rattle.lists.specs.Filled.{zeros}
use Rattle.refusals.specs.Outcome.{outcome_of}
use Rattle.text_plan.specs.Call.{refusal_of}
use Rattle.text_owners.proofs.FromEnd.{cut-left, cut-ready, cut-foot-refused, cut-passed}
use Rattle.text_owners.proofs.cut.read_cut.Goals as goal

pub slice_bounds-read-end : goal.slice_bounds-read-end
slice_bounds-read-end c = sym (length-take-le _ _ c.requires.place.inside)

pub returns-in_err-stated : goal.returns-in_err-stated
returns-in_err-stated c = cut-left _ _ _ _ _ _ c.requires _ _ _ _ _ c.from_residual.ensures.1 c.in_err-stated.ensures _ c.clear_bytes.ensures

pub read_foot-requires : goal.read_foot-requires
read_foot-requires c = cut-ready _ _ _ _ _ _ c.requires _ _ _ _ c.in_ok-stated.ensures refl _ c.clear_bytes.ensures

pub returns-in-Err : goal.returns-in-Err
returns-in-Err c =
    let is = ap outcome_of c.in-Err.is in
    cut-foot-refused _ _ _ _ _ _ c.requires _ _ _ _ c.in_ok-stated.ensures refl _ _ c.read_foot.ensures is _ _ _ _ _
    (sym (ap refusal_of is))
    (c.clear.ensures ∙ ap zeros c.read.auto.starts)
    (c.clear-in-Err.ensures ∙ ap zeros c.read.auto.cols)
    (c.clear-in-Err-2.ensures ∙ ap zeros c.read.auto.vals)
    (c.clear_bytes-in-Err.ensures ∙ ap zeros (c.read_foot.auto.owners ∙ c.clear_bytes.auto.bytes))

pub returns : goal.returns
returns c = cut-passed _ _ _ _ _ _ c.requires _ _ _ _ c.in_ok-stated.ensures refl _ _ c.read_foot.ensures (ap outcome_of c.in_default.is)

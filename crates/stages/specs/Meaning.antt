-- The factors of a plan that was read, by the pivot rules.
--   factors_of x        R, C, L, U and r
--   FitsAll x          L and U have at most 16,384 entries each
--   OverflowsAt x i    i is the first row, in processing order, with which L or U has more than 16,384 entries
use Rattle.std.specs.Prelude.{ℕ}
use Rattle.sparse.specs.Matrix.{matrix}
use Rattle.sparse.specs.Set.{Set}
use Rattle.text_plan.specs.Call.{ReadAnswer}
use Rattle.text_plan.specs.Held.{plan_of}
use Rattle.elimination.specs.Selection.{structural}
use Rattle.elimination.specs.Factoring.{schedule, nothing, factor}
use Rattle.elimination.specs.Overflow.{Overflows}
use Rattle.limits.specs.Limits.{largest_entries}
use Rattle.call_factor.specs.Accepted.{FactorsFit}
use Rattle.stages.specs.Stages.{lent_for}

abbrev pub factors_of : ReadAnswer → Set
factors_of x = factor x.result.p x.result.n x.result.m (plan_of x)

abbrev pub FitsAll : ReadAnswer → Type 0
FitsAll x = FactorsFit x.result.p x.result.n x.result.m (plan_of x) (lent_for x.result.n x.result.m)

abbrev pub OverflowsAt : ReadAnswer → ℕ → Type 0
OverflowsAt x i =
    let r = x.result in
    Overflows r.p r.m (matrix (plan_of x)) largest_entries largest_entries nothing (schedule r.n (structural (plan_of x) r.n r.m)) i

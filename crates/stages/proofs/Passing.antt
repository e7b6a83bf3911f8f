-- The factors of a good plan, by the pivot rules, are taken by every later call.
--   factors-sized    their lists have their lengths
--   factors-pass     they pass the check
use mathlib.Core.Path.{refl, sym}
use Prim.Native.Nat.{ℕ}
use Rattle.sparse.specs.Matrix.{Compressed, matrix}
use Rattle.sparse.proofs.Rows.{form-paired}
use Rattle.elimination.specs.Factoring.{factor}
use Rattle.elimination.proofs.Theorem.{StoredFactors, factor-stored}
use Rattle.certificate.specs.Layout.{Sized}
use Rattle.limits.specs.Limits.{work_length}
use Rattle.call_plan.specs.Accepted.{GoodPlan}
use Rattle.call_plan.proofs.Plans.{good-prime}
use Rattle.call_check.specs.Passing.{StoredPasses}

module _ (p n m : ℕ) (A : Compressed) (g : GoodPlan p n m A) where
  stored : StoredFactors p n m (matrix A) (factor p n m A)
  stored = factor-stored p n m A (good-prime g) g.formed g.rows

  pub factors-sized : Sized n m (factor p n m A)
  factors-sized =
      let s = factor p n m A in
      record {
        row-order = stored.R-length;
        column-order = stored.C-length;
        lower-starts = stored.L-starts;
        lower-values = sym (form-paired p s.r s.L.starts s.L.cols s.L.vals stored.L-form);
        upper-starts = stored.U-starts;
        upper-values = sym (form-paired p m s.U.starts s.U.cols s.U.vals stored.U-form);
      }

  pub factors-pass : StoredPasses p n m A (factor p n m A) work_length
  factors-pass = record { plan = g; sized = factors-sized; work = refl; passes = record { L-form = stored.L-form; U-form = stored.U-form; factors = stored.factors } }

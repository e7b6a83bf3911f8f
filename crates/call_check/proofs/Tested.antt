-- What a plan and a set are that passed the tests before the judge.
use mathlib.Core.Path.{◌≡◌, refl, sym}
use mathlib.Core.Bool.{true, ◌&&◌}
use mathlib.Core.List.{List}
use Prim.Native.Nat.{ℕ, ◌+◌}
use native.Mathlib.Omega.{arith}
use lib.Dec.{eqb}
use lib.ListN.{length}
use borrow.Author.Tests.{eqb-true}
use Rattle.lists.specs.Filled.{zeros}
use Rattle.refusals.specs.Refusals.{◌▷◌, unless}
use Rattle.refusals.specs.Outcome.{Outcome}
use Rattle.refusals.specs.Outcome.{Passed, Refused}
use Rattle.lists.proofs.Bools.{and_left, and_right}
use Rattle.refusals.proofs.Refusals.{unless-true}
use Rattle.sparse.specs.Matrix.{Compressed}
use Rattle.sparse.specs.Set.{Set}
use Rattle.check_set.specs.Needs.{Checkable}
use Rattle.certificate.specs.Reading.{header_ok}
use Rattle.certificate.specs.Layout.{Sized}
use Rattle.limits.specs.Limits.{work_length}
use Rattle.call_plan.specs.Tests.{paired_lengths, plan_lengths, set_lengths, call_outcome}
use Rattle.call_plan.specs.Accepted.{GoodPlan}
use Rattle.call_plan.proofs.Plans.{good-plan, good-positive}
use Rattle.call_check.specs.Calls.{factors_outcome, certificate_outcome}

-- the lengths of a set's lists, as they are tested
pub set-sized : (n m : ℕ) (s : Set) → set_lengths n m s ≡ true → Sized n m s
unfolding set_lengths plan_lengths
set-sized n m s h =
    let h₁ = and_right (eqb (length s.R) n) (eqb (length s.C) m && (plan_lengths n s.L && plan_lengths s.r s.U)) h in
    let h₂ = and_right (eqb (length s.C) m) (plan_lengths n s.L && plan_lengths s.r s.U) h₁ in
    let lower = and_left (plan_lengths n s.L) (plan_lengths s.r s.U) h₂ in
    let upper = and_right (plan_lengths n s.L) (plan_lengths s.r s.U) h₂ in
    record {
      row-order = eqb-true (length s.R) n (and_left (eqb (length s.R) n) (eqb (length s.C) m && (plan_lengths n s.L && plan_lengths s.r s.U)) h);
      column-order = eqb-true (length s.C) m (and_left (eqb (length s.C) m) (plan_lengths n s.L && plan_lengths s.r s.U) h₁);
      lower-starts = eqb-true (length s.L.starts) (n + 1) (and_left (eqb (length s.L.starts) (n + 1)) (paired_lengths s.L.cols s.L.vals) lower);
      lower-values = sym (eqb-true (length s.L.cols) (length s.L.vals) (and_right (eqb (length s.L.starts) (n + 1)) (paired_lengths s.L.cols s.L.vals) lower));
      upper-starts = eqb-true (length s.U.starts) (s.r + 1) (and_left (eqb (length s.U.starts) (s.r + 1)) (paired_lengths s.U.cols s.U.vals) upper);
      upper-values = sym (eqb-true (length s.U.cols) (length s.U.vals) (and_right (eqb (length s.U.starts) (s.r + 1)) (paired_lengths s.U.cols s.U.vals) upper));
    }

-- a plan and a set that can be checked
pub checkable : (p n m : ℕ) (A : Compressed) (s : Set) (w : List ℕ) → GoodPlan p n m A → Sized n m s → length w ≡ work_length → w ≡ zeros (length w) → Checkable p n m A s w
checkable p n m A s w g z wide clear =
    record {
      positive = good-positive g;
      A-form = g.formed;
      A-rows = g.rows;
      order = z.row-order;
      columns = z.column-order;
      L-rows = z.lower-starts;
      U-rows = z.upper-starts;
      rows_fit = omega (arith, g.few-rows);
      columns-fit = omega (arith, g.few-columns);
      cleared = clear;
    }

pub factors-good : (p n m : ℕ) (A : Compressed) (s : Set) (w : ℕ) → factors_outcome p n m A s w ≡ Passed → GoodPlan p n m A × Sized n m s × (w ≡ work_length)
unfolding factors_outcome
factors-good p n m A s w h =
    let (g, l) = good-plan p n m A (set_lengths n m s && eqb w work_length) h in
    (g, set-sized n m s (and_left (set_lengths n m s) (eqb w work_length) l), eqb-true w work_length (and_right (set_lengths n m s) (eqb w work_length) l))

pub certificate-good : (p n m : ℕ) (A : Compressed) (cert : List ℕ) (w : ℕ) → certificate_outcome p n m A cert w ≡ Passed
    → GoodPlan p n m A × (header_ok p n m cert ≡ true) × (w ≡ work_length)
unfolding certificate_outcome
certificate-good p n m A cert w h = go (call_outcome (eqb w work_length) p n m A) refl h
  where
    go : (o : Outcome) → call_outcome (eqb w work_length) p n m A ≡ o → (o ▷ unless (header_ok p n m cert) 10 0) ≡ Passed
        → GoodPlan p n m A × (header_ok p n m cert ≡ true) × (w ≡ work_length)
    go Passed e q = let (g, l) = good-plan p n m A (eqb w work_length) e in (g, unless-true (header_ok p n m cert) 10 0 q, eqb-true w work_length l)
    go (Refused k d) e q = absurd (let z : ◌≡◌ {A = ℕ} 0 1 = cc in omega arith)

-- A stored plan passes the tests that every call begins with exactly if it is a good plan and the call's other lists have their lengths.
--   plan-exactly                 exactly if
--   good-plan                    one way
--   good-passes                  the other
--   plan-numbers                 a plan is refused by 9, 1, 2 or 8
--   good-prime, good-positive    the modulus of a good plan
--   small_product                the number of cells of a matrix within the limits
use mathlib.Core.Path.{◌≡◌, refl, ap}
use mathlib.Core.Logic.{◌↔◌}
use mathlib.Core.Bool.{Bool, true, ◌&&◌}
use mathlib.Core.List.{[], ◌∷◌}
use Prim.Native.Nat.{ℕ, ◌+◌, ◌*◌, ◌^◌, ◌≤◌, ◌<◌}
use native.Mathlib.Nat.{mul-le-mul_left}
use native.Mathlib.Omega.{arith}
use lib.Dec.{eqb, leb}
use lib.ListN.{length}
use borrow.Author.Tests.{eq-eqb, eqb-true, le-leb, leb-true}
use Rattle.lists.specs.Tests.{among}
use Rattle.refusals.specs.Table.{plan_faults}
use Rattle.refusals.specs.Refusals.{◌▷◌, unless}
use Rattle.refusals.specs.Outcome.{Passed}
use Rattle.lists.proofs.Bools.{and_left, and_right, and_both}
use Rattle.refusals.proofs.Refusals.{RefusedBy, unless-passed, unless_holds, unless-true, refused-unless, refused-then}
use Rattle.algebra.specs.Prime.{Prime}
use Rattle.residue.specs.Range.{is_modulus}
use Rattle.residue.proofs.Primes.{modulus-prime}
use Rattle.sparse.specs.Matrix.{Compressed, form}
use Rattle.limits.specs.Limits.{largest_size, largest_entries}
use Rattle.call_plan.specs.Tests.{paired_lengths, plan_lengths, limits_ok, plan_outcome, call_outcome}
use Rattle.call_plan.specs.Accepted.{GoodPlan}

pub good-prime : {p n m : ℕ} {A : Compressed} → GoodPlan p n m A → Prime p
good-prime {p} g = modulus-prime p g.modulus

pub good-positive : {p n m : ℕ} {A : Compressed} → GoodPlan p n m A → 0 < p
good-positive g = omega (arith, (good-prime g).two)

module _ (p n m : ℕ) (A : Compressed) (lengths : Bool) where
  pub good-plan : call_outcome lengths p n m A ≡ Passed → GoodPlan p n m A × (lengths ≡ true)
  unfolding plan_outcome plan_lengths limits_ok
  good-plan h =
      let (long, h₁) = unless-passed (plan_lengths n A && lengths) 9 0 (plan_outcome p n m A) h in
      let (modulus, h₂) = unless-passed (is_modulus p) 1 0 (unless (limits_ok n m A) 2 0 ▷ unless (form p m A) 8 0) h₁ in
      let (limits, h₃) = unless-passed (limits_ok n m A) 2 0 (unless (form p m A) 8 0) h₂ in
      let lists = and_left (plan_lengths n A) lengths long in
      let columns = and_right (leb n largest_size) (leb m largest_size && leb (length A.cols) largest_entries) limits in (
        record {
          modulus = modulus;
          rows = eqb-true (length A.starts) (n + 1) (and_left (eqb (length A.starts) (n + 1)) (paired_lengths A.cols A.vals) lists);
          paired = eqb-true (length A.cols) (length A.vals) (and_right (eqb (length A.starts) (n + 1)) (paired_lengths A.cols A.vals) lists);
          few-rows = leb-true n largest_size (and_left (leb n largest_size) (leb m largest_size && leb (length A.cols) largest_entries) limits);
          few-columns = leb-true m largest_size (and_left (leb m largest_size) (leb (length A.cols) largest_entries) columns);
          few-entries = leb-true (length A.cols) largest_entries (and_right (leb m largest_size) (leb (length A.cols) largest_entries) columns);
          formed = unless-true (form p m A) 8 0 h₃;
        },
        and_right (plan_lengths n A) lengths long,
      )

  pub good-passes : GoodPlan p n m A → lengths ≡ true → call_outcome lengths p n m A ≡ Passed
  unfolding plan_outcome plan_lengths limits_ok
  good-passes g e =
      unless_holds (plan_lengths n A && lengths) 9 0 (plan_outcome p n m A)
      (and_both (plan_lengths n A) lengths (and_both _ _ (eq-eqb (length A.starts) (n + 1) g.rows) (eq-eqb (length A.cols) (length A.vals) g.paired)) e)
      (unless_holds (is_modulus p) 1 0 (unless (limits_ok n m A) 2 0 ▷ unless (form p m A) 8 0) g.modulus
      (unless_holds (limits_ok n m A) 2 0 (unless (form p m A) 8 0)
      (and_both _ _ (le-leb n largest_size g.few-rows) (and_both _ _ (le-leb m largest_size g.few-columns) (le-leb (length A.cols) largest_entries g.few-entries)))
      (ap (λ (b : Bool). unless b 8 0) g.formed)))

  pub plan-exactly : (call_outcome lengths p n m A ≡ Passed) ↔ (GoodPlan p n m A × (lengths ≡ true))
  plan-exactly = (good-plan, λ h. good-passes h.0 h.1)

  pub plan-numbers : RefusedBy plan_faults (call_outcome lengths p n m A)
  unfolding plan_outcome among
  plan-numbers =
      refused-then (9 ∷ []) (1 ∷ 2 ∷ 8 ∷ []) (unless (plan_lengths n A && lengths) 9 0) _ (refused-unless (9 ∷ []) (plan_lengths n A && lengths) 9 0 refl)
      (refused-then (1 ∷ []) (2 ∷ 8 ∷ []) (unless (is_modulus p) 1 0) _ (refused-unless (1 ∷ []) (is_modulus p) 1 0 refl)
      (refused-then (2 ∷ []) (8 ∷ []) (unless (limits_ok n m A) 2 0) _ (refused-unless (2 ∷ []) (limits_ok n m A) 2 0 refl)
      (refused-unless (8 ∷ []) (form p m A) 8 0 refl)))

-- a matrix within the limits has few cells
pub small_product : (a b : ℕ) → a ≤ largest_size → b ≤ largest_size → a * b < 2 ^ 32
small_product a b h k = omega (arith, mul-le-mul_left {m = b} {n = 2048} a k, h)

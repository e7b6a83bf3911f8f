-- What a check says of the plan and the set, whoever made the set.
-- Of the definitions:
--   factors-exactly, certificate-exactly      they pass exactly what has the published shape and the product A
--   factors-numbers, certificate-numbers      and refuse by 9, 1, 2, 8, or 10 to 14
--   stored-certificate                        the certificate of stored factors that pass passes
-- Of a call, with what it returned and left (`Checks`):
--   stored-passes, bytes-pass                 0 is returned exactly if the set passes
--   stored-judged, bytes-judged               after the tests of lengths and plan, none of 10 to 14 is returned exactly if shape and product are right
--   stored-by, bytes-by                       the numbers of the table by which it refuses
--   stored-product, bytes_product             0: A = PLUQ
--   stored-rank, bytes-rank                   0: r is the rank
use mathlib.Core.Path.{◌≡◌, refl, sym, ap, subst, ◌∙◌}
use mathlib.Core.Logic.{◌↔◌}
use mathlib.Core.Bool.{true, false, ◌&&◌}
use mathlib.Core.List.{List, ◌++◌}
use Prim.Native.Nat.{ℕ, ◌+◌}
use lib.Dec.{eqb}
use lib.ListN.{length}
use borrow.Author.Tests.{eq-eqb}
use Rattle.lists.specs.Tests.{among}
use Rattle.refusals.specs.Table.{plan_faults, set_faults}
use Rattle.refusals.specs.Refusals.{◌▷◌, unless, number_of, NumberFrom}
use Rattle.refusals.specs.Outcome.{Outcome}
use Rattle.refusals.specs.Outcome.{Passed}
use Rattle.lists.proofs.Bools.{and_both}
use Rattle.refusals.proofs.Refusals.{RefusedBy, number-from, both-passed, unless-passed, unless_holds, after-passed, then-after, then-nothing, refused-next, refused-then, zero-passed, none-among}
use Rattle.algebra.specs.Matrix.{vector}
use Rattle.algebra.specs.Rank.{Rank}
use Rattle.algebra.specs.Factors.{Factors}
use Rattle.algebra.proofs.Rank as ranks
use Rattle.sparse.specs.Matrix.{Compressed, matrix}
use Rattle.sparse.specs.Set.{Set}
use Rattle.pluq.specs.Judge.{judge, Passes}
use Rattle.pluq.proofs.Judged.{judge-passes, judge-numbers}
use Rattle.certificate.specs.Layout.{certificate_of, Sized}
use Rattle.certificate.specs.Reading.{header_ok, set_of_certificate}
use Rattle.certificate.proofs.Passed.{passed-sized}
use Rattle.certificate.proofs.ReadBack.{written-passes, written-reads-back}
use Rattle.limits.specs.Limits.{work_length}
use Rattle.call_plan.specs.Tests.{plan_lengths, set_lengths, call_outcome}
use Rattle.call_plan.specs.Accepted.{GoodPlan}
use Rattle.call_plan.proofs.Plans.{good-prime, good-positive, good-passes, plan-numbers}
use Rattle.call_check.specs.Calls.{factors_outcome, certificate_outcome, check_factors_of, check_certificate_of, Checks}
use Rattle.call_check.specs.Passing.{StoredPasses, CertificatePasses}
use Rattle.call_check.proofs.Tested.{factors-good, certificate-good}
use Rattle.call_check.proofs.Numbers.{numbers-small}

-- ---- stored factors

sized_set : (n m : ℕ) (s : Set) → Sized n m s → set_lengths n m s ≡ true
unfolding set_lengths plan_lengths
sized_set n m s z =
    rw (eq-eqb (length s.R) n z.row-order)
    (rw (eq-eqb (length s.C) m z.column-order)
    (rw (eq-eqb (length s.L.starts) (n + 1) z.lower-starts)
    (rw (eq-eqb (length s.L.cols) (length s.L.vals) (sym z.lower-values))
    (rw (eq-eqb (length s.U.starts) (s.r + 1) z.upper-starts)
    (eq-eqb (length s.U.cols) (length s.U.vals) (sym z.upper-values))))))

module _ (p n m : ℕ) (A : Compressed) (s : Set) (w : ℕ) where
  judged : GoodPlan p n m A → Sized n m s → (judge p n m A s ≡ Passed) ↔ Passes p n m A s
  judged g z = judge-passes p n m A s (good-positive g) z.row-order z.column-order

  tested : GoodPlan p n m A → Sized n m s → w ≡ work_length → factors_outcome p n m A s w ≡ Passed
  unfolding factors_outcome
  tested g z e = good-passes p n m A (set_lengths n m s && eqb w work_length) g (and_both (set_lengths n m s) (eqb w work_length) (sized_set n m s z) (eq-eqb w work_length e))

  pub factors-exactly : (check_factors_of p n m A s w ≡ Passed) ↔ StoredPasses p n m A s w
  unfolding check_factors_of
  factors-exactly = (
    (λ e.
        let (o, j) = both-passed (factors_outcome p n m A s w) (judge p n m A s) e in
        let (g, z, l) = factors-good p n m A s w o in
        record { plan = g; sized = z; work = l; passes = (judged g z).0 j }),
    λ h. after-passed (factors_outcome p n m A s w) (judge p n m A s) (tested h.plan h.sized h.work) ∙ (judged h.plan h.sized).1 h.passes,
  )

  pub factors-numbers : RefusedBy (plan_faults ++ set_faults) (check_factors_of p n m A s w)
  unfolding check_factors_of factors_outcome
  factors-numbers =
      refused-then plan_faults set_faults (call_outcome (set_lengths n m s && eqb w work_length) p n m A) (judge p n m A s)
      (plan-numbers p n m A (set_lengths n m s && eqb w work_length)) (judge-numbers p n m A s)

  -- what follows the check gives none of its numbers
  pub factors-none : GoodPlan p n m A → Sized n m s → w ≡ work_length → (next : Outcome) → among (number_of next) set_faults ≡ false
      → (among (number_of (check_factors_of p n m A s w ▷ next)) set_faults ≡ false) ↔ Passes p n m A s
  unfolding check_factors_of
  factors-none g z l next h =
      let same = after-passed (factors_outcome p n m A s w) (judge p n m A s) (tested g z l) in
      let (there, back) = none-among set_faults (judge p n m A s) next (judge-numbers p n m A s) h in
      subst (λ (o : Outcome). (among (number_of (o ▷ next)) set_faults ≡ false) ↔ Passes p n m A s) (sym same)
      ((λ e. (judged g z).0 (there e)), λ q. back ((judged g z).1 q))

-- ---- a certificate

module _ (p n m : ℕ) (A : Compressed) (cert : List ℕ) (w : ℕ) where
  abbrev held : Set
  held = set_of_certificate n m cert

  header-judged : GoodPlan p n m A → header_ok p n m cert ≡ true → (judge p n m A held ≡ Passed) ↔ Passes p n m A held
  header-judged g t = let z = passed-sized p n m cert t in judge-passes p n m A held (good-positive g) z.row-order z.column-order

  plan-tested : GoodPlan p n m A → w ≡ work_length → call_outcome (eqb w work_length) p n m A ≡ Passed
  plan-tested g e = good-passes p n m A (eqb w work_length) g (eq-eqb w work_length e)

  -- the header and the set, after the plan
  abbrev pub rest : Outcome
  rest = unless (header_ok p n m cert) 10 0 ▷ judge p n m A held

  rest-exactly : GoodPlan p n m A → (rest ≡ Passed) ↔ ((header_ok p n m cert ≡ true) × Passes p n m A held)
  rest-exactly g = (
    (λ e. let (t, j) = unless-passed (header_ok p n m cert) 10 0 (judge p n m A held) e in (t, (header-judged g t).0 j)),
    λ q. unless_holds (header_ok p n m cert) 10 0 (judge p n m A held) q.0 ((header-judged g q.0).1 q.1),
  )

  pub rest-numbers : RefusedBy set_faults rest
  unfolding among
  rest-numbers = refused-next set_faults (header_ok p n m cert) 10 0 (judge p n m A held) refl (judge-numbers p n m A held)

  pub after-plan : GoodPlan p n m A → w ≡ work_length → check_certificate_of p n m A cert w ≡ rest
  unfolding check_certificate_of certificate_outcome
  after-plan g e = ap (λ (o : Outcome). (o ▷ unless (header_ok p n m cert) 10 0) ▷ judge p n m A held) (plan-tested g e)

  pub certificate-exactly : (check_certificate_of p n m A cert w ≡ Passed) ↔ CertificatePasses p n m A cert w
  unfolding check_certificate_of
  certificate-exactly = (sound, λ h. after-plan h.plan h.work ∙ (rest-exactly h.plan).1 (h.layout, h.passes))
    where
      sound : (certificate_outcome p n m A cert w ▷ judge p n m A held) ≡ Passed → CertificatePasses p n m A cert w
      sound e =
          let (o, j) = both-passed (certificate_outcome p n m A cert w) (judge p n m A held) e in
          let (g, t, l) = certificate-good p n m A cert w o in
          record { plan = g; work = l; layout = t; passes = (header-judged g t).0 j }

  pub certificate-numbers : RefusedBy (plan_faults ++ set_faults) (check_certificate_of p n m A cert w)
  unfolding check_certificate_of certificate_outcome
  certificate-numbers =
      subst (RefusedBy (plan_faults ++ set_faults)) (sym (then-after (call_outcome (eqb w work_length) p n m A) (unless (header_ok p n m cert) 10 0) (judge p n m A held)))
      (refused-then plan_faults set_faults (call_outcome (eqb w work_length) p n m A) rest (plan-numbers p n m A (eqb w work_length)) rest-numbers)

  pub certificate-none : GoodPlan p n m A → w ≡ work_length → (next : Outcome) → among (number_of next) set_faults ≡ false
      → (among (number_of (check_certificate_of p n m A cert w ▷ next)) set_faults ≡ false) ↔ ((header_ok p n m cert ≡ true) × Passes p n m A held)
  certificate-none g l next h =
      let (there, back) = none-among set_faults rest next rest-numbers h in
      subst (λ (o : Outcome). (among (number_of (o ▷ next)) set_faults ≡ false) ↔ ((header_ok p n m cert ≡ true) × Passes p n m A held)) (sym (after-plan g l))
      ((λ e. (rest-exactly g).0 (there e)), λ q. back ((rest-exactly g).1 q))

-- ---- the certificate of a set that passes

pub stored-certificate : (p n m : ℕ) (A : Compressed) (s : Set) (w : ℕ) → StoredPasses p n m A s w → check_certificate_of p n m A (certificate_of p n m s) w ≡ Passed
stored-certificate p n m A s w h =
    let small = numbers-small p n m A s h.plan h.sized h.passes in
    (certificate-exactly p n m A (certificate_of p n m s) w).1
    (record {
      plan = h.plan;
      work = h.work;
      layout = written-passes p n m s h.sized small;
      passes = rw (written-reads-back p n m s h.sized small) h.passes;
    })

-- ---- what a call returned and left

-- for any check that refuses by the numbers of the table
module _ (o r : Outcome) (w₀ w : List ℕ) (X : Type 0) (call : Checks o r w₀ w) (exactly : (o ≡ Passed) ↔ X) (numbers : RefusedBy (plan_faults ++ set_faults) o) where
  call_passes : (number_of r ≡ 0) ↔ X
  unfolding among
  call_passes =
      let (there, back) = zero-passed (plan_faults ++ set_faults) o numbers refl in
      ((λ e. exactly.0 (there (ap number_of (sym call.outcome) ∙ e))), λ x. ap number_of call.outcome ∙ back (exactly.1 x))

  call_by : NumberFrom (plan_faults ++ set_faults) (number_of r)
  call_by = subst (λ (q : Outcome). NumberFrom (plan_faults ++ set_faults) (number_of q)) (sym call.outcome) (number-from (plan_faults ++ set_faults) o numbers)

  call-judged : (Y : Type 0) → ((among (number_of (o ▷ Passed)) set_faults ≡ false) ↔ Y) → (among (number_of r) set_faults ≡ false) ↔ Y
  call-judged Y h = subst (λ (q : Outcome). (among (number_of q) set_faults ≡ false) ↔ Y) (then-nothing o ∙ sym call.outcome) h

module _ (p n m : ℕ) (A : Compressed) (s : Set) (r : Outcome) (w₀ w : List ℕ) (call : Checks (check_factors_of p n m A s (length w₀)) r w₀ w) where
  pub stored-passes : (number_of r ≡ 0) ↔ StoredPasses p n m A s (length w₀)
  stored-passes = call_passes (check_factors_of p n m A s (length w₀)) r w₀ w _ call (factors-exactly p n m A s (length w₀)) (factors-numbers p n m A s (length w₀))

  pub stored-by : NumberFrom (plan_faults ++ set_faults) (number_of r)
  stored-by = call_by (check_factors_of p n m A s (length w₀)) r w₀ w _ call (factors-exactly p n m A s (length w₀)) (factors-numbers p n m A s (length w₀))

  pub stored-judged : GoodPlan p n m A → Sized n m s → length w₀ ≡ work_length → (among (number_of r) set_faults ≡ false) ↔ Passes p n m A s
  unfolding among
  stored-judged g z l =
      call-judged (check_factors_of p n m A s (length w₀)) r w₀ w _ call (factors-exactly p n m A s (length w₀)) (factors-numbers p n m A s (length w₀)) (Passes p n m A s)
      (factors-none p n m A s (length w₀) g z l Passed refl)

  pub stored-product : number_of r ≡ 0 → Factors p n m s.r (matrix A) (vector s.R) (vector s.C) (matrix s.L) (matrix s.U)
  stored-product e = (stored-passes.0 e).passes.factors

  pub stored-rank : number_of r ≡ 0 → Rank p n m (matrix A) s.r
  stored-rank e = ranks.rank (good-prime (stored-passes.0 e).plan) (stored-product e)

module _ (p n m : ℕ) (A : Compressed) (cert : List ℕ) (r : Outcome) (w₀ w : List ℕ) (call : Checks (check_certificate_of p n m A cert (length w₀)) r w₀ w) where
  abbrev set : Set
  set = set_of_certificate n m cert

  pub bytes-pass : (number_of r ≡ 0) ↔ CertificatePasses p n m A cert (length w₀)
  bytes-pass = call_passes (check_certificate_of p n m A cert (length w₀)) r w₀ w _ call (certificate-exactly p n m A cert (length w₀)) (certificate-numbers p n m A cert (length w₀))

  pub bytes-by : NumberFrom (plan_faults ++ set_faults) (number_of r)
  bytes-by = call_by (check_certificate_of p n m A cert (length w₀)) r w₀ w _ call (certificate-exactly p n m A cert (length w₀)) (certificate-numbers p n m A cert (length w₀))

  pub bytes-judged : GoodPlan p n m A → length w₀ ≡ work_length → (among (number_of r) set_faults ≡ false) ↔ ((header_ok p n m cert ≡ true) × Passes p n m A set)
  unfolding among
  bytes-judged g l =
      call-judged (check_certificate_of p n m A cert (length w₀)) r w₀ w _ call (certificate-exactly p n m A cert (length w₀)) (certificate-numbers p n m A cert (length w₀))
      ((header_ok p n m cert ≡ true) × Passes p n m A set) (certificate-none p n m A cert (length w₀) g l Passed refl)

  pub bytes_product : number_of r ≡ 0 → Factors p n m set.r (matrix A) (vector set.R) (vector set.C) (matrix set.L) (matrix set.U)
  bytes_product e = (bytes-pass.0 e).passes.factors

  pub bytes-rank : number_of r ≡ 0 → Rank p n m (matrix A) set.r
  bytes-rank e = ranks.rank (good-prime (bytes-pass.0 e).plan) (bytes_product e)

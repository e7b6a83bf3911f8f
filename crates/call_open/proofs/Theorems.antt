-- What a call that lists the open columns says, with what it returned and left (`Lists`), whatever set it was given, whoever made it.
--   stored-listed, bytes-listed      0 is returned exactly if the set passes the check and the list has m cells
--   stored-marks, bytes-marks        and then cell j is 1 exactly if the unit question of j is open, and 0 exactly if it is closed
--   stored-judged, bytes-judged      after the tests of lengths and plan, none of 10 to 14 is returned exactly if shape and product are right
--   stored-by, bytes-by              the numbers of the table by which it refuses
--   stored-cleared, bytes-cleared    a refusal leaves the list all zero
use mathlib.Core.Path.{◌≡◌, refl, sym, ap, subst, ◌∙◌}
use mathlib.Core.Logic.{◌↔◌}
use mathlib.Core.Bool.{Bool, true, false}
use mathlib.Core.List.{List, [], ◌∷◌, ◌++◌}
use Prim.Native.Nat.{ℕ}
use lib.Dec.{eqb}
use lib.ListN.{length}
use borrow.Author.Tests.{eqb-true, eq-eqb}
use Rattle.lists.specs.Tests.{among}
use Rattle.refusals.specs.Table.{plan_faults, set_faults, wrong_length}
use Rattle.lists.specs.Filled.{zeros, filled}
use Rattle.refusals.specs.Refusals.{◌▷◌, unless, number_of, NumberFrom}
use Rattle.refusals.specs.Outcome.{Outcome}
use Rattle.refusals.specs.Outcome.{Passed, Refused}
use Rattle.lists.proofs.Filled.{filled_none, filled-whole}
use Rattle.lists.proofs.Tabulate.{length-tabulate}
use Rattle.refusals.proofs.Refusals.{RefusedBy, number-from, then-nothing, unless-passed, unless_holds, refused-unless, refused-then, zero-passed}
use Rattle.sparse.specs.Matrix.{Compressed}
use Rattle.sparse.specs.Set.{Set}
use Rattle.pluq.specs.Judge.{Passes}
use Rattle.row_space.specs.Solve.{open_columns}
use Rattle.row_space.proofs.Theorems.{open-columns, closed-columns}
use Rattle.certificate.specs.Layout.{Sized}
use Rattle.certificate.specs.Reading.{header_ok, set_of_certificate}
use Rattle.limits.specs.Limits.{work_length}
use Rattle.call_plan.specs.Accepted.{GoodPlan}
use Rattle.call_check.specs.Passing.{StoredPasses, CertificatePasses}
use Rattle.call_check.proofs.Theorems.{factors-none, certificate-none}
use Rattle.call_check.proofs.Checked.{SetTest, stored-test, bytes-test}
use Rattle.call_open.specs.Calls.{columns_after, listed, open_factors_of, open_certificate_of, Lists}
use Rattle.call_open.specs.Meaning.{MarksOpen}

pub listed-outcome : (o : Outcome) (l : List ℕ) → (listed o l).outcome ≡ o
listed-outcome Passed l = refl
listed-outcome (Refused k d) l = refl

pub columns-long : (p m : ℕ) (s : Set) → length (open_columns p m s) ≡ m
unfolding open_columns
columns-long p m s = length-tabulate m _

-- the numbers by which a call that lists the open columns refuses
abbrev faults : List ℕ
faults = (wrong_length ∷ []) ++ (plan_faults ++ set_faults)

-- ---- for any check of a set, which passes exactly X

module _ (X : Type 0) (p n m : ℕ) (A : Compressed) (s : Set) (r : Outcome) (l₀ l w₀ w : List ℕ) (t : SetTest p n m A s (length w₀) X)
    (call : Lists (listed (columns_after t.check m (length l₀)) (open_columns p m s)) r l₀ l w₀ w) where
  abbrev after : Outcome
  after = columns_after t.check m (length l₀)

  outcome-is : r ≡ after
  outcome-is = call.outcome ∙ listed-outcome after (open_columns p m s)

  after-numbers : RefusedBy faults after
  unfolding columns_after among
  after-numbers = refused-then (9 ∷ []) (plan_faults ++ set_faults) (unless (eqb (length l₀) m) 9 0) t.check (refused-unless (9 ∷ []) (eqb (length l₀) m) 9 0 refl) t.numbers

  by : NumberFrom faults (number_of r)
  by = subst (λ (o : Outcome). NumberFrom faults (number_of o)) (sym outcome-is) (number-from faults after after-numbers)

  after-passed : (number_of r ≡ 0) ↔ (after ≡ Passed)
  unfolding among
  after-passed =
      let (there, back) = zero-passed faults after after-numbers refl in
      ((λ e. there (ap number_of (sym outcome-is) ∙ e)), λ e. ap number_of outcome-is ∙ back e)

  parts : number_of r ≡ 0 → (length l₀ ≡ m) × (t.check ≡ Passed)
  unfolding columns_after
  parts e = let (long, judged) = unless-passed (eqb (length l₀) m) 9 0 t.check (after-passed.0 e) in (eqb-true (length l₀) m long, judged)

  lists-exactly : (number_of r ≡ 0) ↔ (X × (length l₀ ≡ m))
  unfolding columns_after
  lists-exactly = (
    (λ e. let (long, judged) = parts e in (t.exactly.0 judged, long)),
    λ h. after-passed.1 (unless_holds (eqb (length l₀) m) 9 0 t.check (eq-eqb (length l₀) m h.1) (t.exactly.1 h.0)),
  )

  marks : number_of r ≡ 0 → MarksOpen p n m A l
  marks e =
      let (long, judged) = parts e in
      let c = t.checked judged in
      let same : l ≡ open_columns p m s =
      call.list-is ∙ ap (λ (o : Outcome). filled (length l₀) (listed o (open_columns p m s)).list) (after-passed.0 e)
      ∙ filled-whole (length l₀) (open_columns p m s) (columns-long p m s ∙ sym long) in
      subst (MarksOpen p n m A) (sym same)
      (record {
        long = columns-long p m s;
        open_at = open-columns c.prime n m A s c.sized.row-order c.sized.column-order c.judged;
        closed_at = closed-columns c.prime n m A s c.sized.row-order c.sized.column-order c.judged;
      })

  cleared : ¬ (number_of r ≡ 0) → l ≡ zeros (length l₀)
  cleared f = go after refl
    where
      go : (o : Outcome) → after ≡ o → l ≡ zeros (length l₀)
      go Passed e = absurd (f (after-passed.1 e))
      go (Refused k d) e = call.list-is ∙ ap (λ (o : Outcome). filled (length l₀) (listed o (open_columns p m s)).list) e ∙ filled_none (length l₀)

  judged-none : (Y : Type 0) → length l₀ ≡ m → ((among (number_of (t.check ▷ Passed)) set_faults ≡ false) ↔ Y) → (among (number_of r) set_faults ≡ false) ↔ Y
  unfolding columns_after
  judged-none Y long k =
      subst (λ (o : Outcome). (among (number_of o) set_faults ≡ false) ↔ Y)
      (sym (outcome-is ∙ ap (λ (b : Bool). unless b 9 0 ▷ t.check) (eq-eqb (length l₀) m long) ∙ sym (then-nothing t.check))) k

-- ---- from stored factors

module _ (p n m : ℕ) (A : Compressed) (s : Set) (r : Outcome) (l₀ l w₀ w : List ℕ) (call : Lists (open_factors_of p n m A s (length l₀) (length w₀)) r l₀ l w₀ w) where
  pub stored-listed : (number_of r ≡ 0) ↔ (StoredPasses p n m A s (length w₀) × (length l₀ ≡ m))
  unfolding open_factors_of
  stored-listed = lists-exactly _ p n m A s r l₀ l w₀ w (stored-test p n m A s (length w₀)) call

  pub stored-marks : number_of r ≡ 0 → MarksOpen p n m A l
  unfolding open_factors_of
  stored-marks = marks _ p n m A s r l₀ l w₀ w (stored-test p n m A s (length w₀)) call

  pub stored-by : NumberFrom faults (number_of r)
  unfolding open_factors_of
  stored-by = by _ p n m A s r l₀ l w₀ w (stored-test p n m A s (length w₀)) call

  pub stored-cleared : ¬ (number_of r ≡ 0) → l ≡ zeros (length l₀)
  unfolding open_factors_of
  stored-cleared = cleared _ p n m A s r l₀ l w₀ w (stored-test p n m A s (length w₀)) call

  pub stored-judged : GoodPlan p n m A → Sized n m s → length w₀ ≡ work_length → length l₀ ≡ m → (among (number_of r) set_faults ≡ false) ↔ Passes p n m A s
  unfolding open_factors_of among
  stored-judged g t k long =
      judged-none _ p n m A s r l₀ l w₀ w (stored-test p n m A s (length w₀)) call (Passes p n m A s) long
      (factors-none p n m A s (length w₀) g t k Passed refl)

-- ---- from a certificate

module _ (p n m : ℕ) (A : Compressed) (cert : List ℕ) (r : Outcome) (l₀ l w₀ w : List ℕ) (call : Lists (open_certificate_of p n m A cert (length l₀) (length w₀)) r l₀ l w₀ w) where
  abbrev set : Set
  set = set_of_certificate n m cert

  pub bytes-listed : (number_of r ≡ 0) ↔ (CertificatePasses p n m A cert (length w₀) × (length l₀ ≡ m))
  unfolding open_certificate_of
  bytes-listed =
      lists-exactly _ p n m A set r l₀ l w₀ w (bytes-test p n m A cert (length w₀)) call

  pub bytes-marks : number_of r ≡ 0 → MarksOpen p n m A l
  unfolding open_certificate_of
  bytes-marks =
      marks _ p n m A set r l₀ l w₀ w (bytes-test p n m A cert (length w₀)) call

  pub bytes-by : NumberFrom faults (number_of r)
  unfolding open_certificate_of
  bytes-by =
      by _ p n m A set r l₀ l w₀ w (bytes-test p n m A cert (length w₀)) call

  pub bytes-cleared : ¬ (number_of r ≡ 0) → l ≡ zeros (length l₀)
  unfolding open_certificate_of
  bytes-cleared =
      cleared _ p n m A set r l₀ l w₀ w (bytes-test p n m A cert (length w₀)) call

  pub bytes-judged : GoodPlan p n m A → length w₀ ≡ work_length → length l₀ ≡ m → (among (number_of r) set_faults ≡ false) ↔ ((header_ok p n m cert ≡ true) × Passes p n m A set)
  unfolding open_certificate_of among
  bytes-judged g k long =
      judged-none _ p n m A set r l₀ l w₀ w (bytes-test p n m A cert (length w₀)) call
      ((header_ok p n m cert ≡ true) × Passes p n m A set) long (certificate-none p n m A cert (length w₀) g k Passed refl)

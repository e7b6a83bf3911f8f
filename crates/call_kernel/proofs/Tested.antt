-- What the call that gives the settings of the free columns says without owners.
--   exactly         0 is returned exactly if the certificate passes the check and the list has m (m - r) cells
--   by              the numbers of the table by which it refuses
--   cleared         a refusal leaves the list all zero
--   first           a certificate that does not pass is refused as by its check
--   other_length    one that passes, with a list of another length, by 9
--   judged-none     after the tests of lengths and plan, none of 10 to 14 is returned exactly if header, shape and product are right
--   given           0: what passed, and that the list is its basis
--   right           0: the list has its meaning
--   basis-right     so has the basis of any set that passed
use mathlib.Core.Path.{◌≡◌, refl, sym, ap, subst, ◌∙◌}
use mathlib.Core.Logic.{◌↔◌}
use mathlib.Core.Bool.{Bool, true, false}
use mathlib.Core.List.{List, ◌++◌}
use Prim.Native.Nat.{ℕ, ◌-◌, ◌*◌}
use lib.Dec.{eqb}
use lib.ListN.{length}
use borrow.Author.Tests.{eqb-true, eq-eqb, ne_eqb}
use Rattle.lists.specs.Tests.{among}
use Rattle.lists.specs.Filled.{zeros, filled}
use Rattle.lists.proofs.Filled.{filled_none, filled-whole}
use Rattle.refusals.specs.Table.{wrong_length, plan_faults, set_faults}
use Rattle.refusals.specs.Refusals.{◌▷◌, unless, number_of, NumberFrom}
use Rattle.refusals.specs.Outcome.{Outcome}
use Rattle.refusals.specs.Outcome.{Passed, Refused}
use Rattle.refusals.proofs.Refusals.{RefusedBy, number-from, both-passed, unless-true, after-passed, refused-unless, zero-passed}
use Rattle.sparse.specs.Matrix.{Compressed}
use Rattle.sparse.specs.Set.{Set}
use Rattle.pluq.specs.Judge.{Passes}
use Rattle.row_space.specs.Kernel.{kernel_basis}
use Rattle.row_space.proofs.Freedom.{free-count, free-rising, free-exactly, basis-length, basis-residues, basis-block, block-only, alike-exactly, shift_is, one_shift}
use Rattle.certificate.specs.Reading.{header_ok, set_of_certificate}
use Rattle.limits.specs.Limits.{work_length}
use Rattle.call_plan.specs.Accepted.{GoodPlan}
use Rattle.call_check.specs.Calls.{check_certificate_of}
use Rattle.call_check.specs.Passing.{CertificatePasses}
use Rattle.call_check.proofs.Checked.{Checked, certificate-checked}
use Rattle.call_check.proofs.Theorems.{certificate-exactly, certificate-numbers, certificate-none}
use Rattle.call_open.specs.Calls.{listed, Lists}
use Rattle.call_open.proofs.Theorems.{listed-outcome}
use Rattle.call_kernel.specs.Calls.{kernel_after, kernel_certificate_of}
use Rattle.call_kernel.specs.Meaning.{SettingsRight}

-- the numbers by which the call refuses
abbrev pub faults : List ℕ
faults = plan_faults ++ set_faults

-- two tests that refuse by the same numbers
refused-both : (ks : List ℕ) (a b : Outcome) → RefusedBy ks a → RefusedBy ks b → RefusedBy ks (a ▷ b)
refused-both ks Passed b h g = g
refused-both ks (Refused k d) b h g = h

-- ---- a set that passed

-- the settings of its free columns have their meaning
pub basis-right : (p n m : ℕ) (A : Compressed) (s : Set) (w : ℕ) → Checked p n m A s w → SettingsRight p n m A s (kernel_basis p m s)
basis-right p n m A s w c =
    let R = c.sized.row-order in let C = c.sized.column-order in
    record {
      count = free-count c.prime n m A s R C c.judged;
      rising = free-rising c.prime n m A s R C c.judged;
      free = free-exactly c.prime n m A s R C c.judged;
      long = basis-length c.prime n m A s R C c.judged;
      residues = basis-residues c.prime n m A s R C c.judged;
      block = basis-block c.prime n m A s R C c.judged;
      only = block-only c.prime n m A s R C c.judged;
      alike = alike-exactly c.prime n m A s R C c.judged;
      one = shift_is c.prime n m A s R C c.judged;
      unique = one_shift c.prime n m A s R C c.judged;
    }

-- ---- the call
module _ (p n m : ℕ) (A : Compressed) (cert : List ℕ) (r : Outcome) (l₀ l w₀ w : List ℕ) (call : Lists (kernel_certificate_of p n m A cert (length l₀) (length w₀)) r l₀ l w₀ w) where
  abbrev set : Set
  set = set_of_certificate n m cert

  abbrev check : Outcome
  check = check_certificate_of p n m A cert (length w₀)

  abbrev fits : Bool
  fits = eqb (length l₀) (m * (m - set.r))

  outcome-is : r ≡ check ▷ unless fits 9 0
  unfolding kernel_certificate_of kernel_after
  outcome-is = call.outcome ∙ listed-outcome (check ▷ unless fits 9 0) (kernel_basis p m set)

  list-is : l ≡ filled (length l₀) (listed (check ▷ unless fits 9 0) (kernel_basis p m set)).list
  unfolding kernel_certificate_of kernel_after
  list-is = call.list-is

  numbers : RefusedBy faults (check ▷ unless fits 9 0)
  unfolding among
  numbers = refused-both faults check (unless fits 9 0) (certificate-numbers p n m A cert (length w₀)) (refused-unless faults fits 9 0 refl)

  pub by : NumberFrom faults (number_of r)
  by = subst (λ (o : Outcome). NumberFrom faults (number_of o)) (sym outcome-is) (number-from faults (check ▷ unless fits 9 0) numbers)

  passed : (number_of r ≡ 0) ↔ ((check ▷ unless fits 9 0) ≡ Passed)
  unfolding among
  passed =
      let (there, back) = zero-passed faults (check ▷ unless fits 9 0) numbers refl in
      ((λ e. there (ap number_of (sym outcome-is) ∙ e)), λ e. ap number_of outcome-is ∙ back e)

  parts : number_of r ≡ 0 → (check ≡ Passed) × (length l₀ ≡ m * (m - set.r))
  parts e =
      let (judged, long) = both-passed check (unless fits 9 0) (passed.0 e) in
      (judged, eqb-true (length l₀) (m * (m - set.r)) (unless-true fits 9 0 long))

  pub exactly : (number_of r ≡ 0) ↔ (CertificatePasses p n m A cert (length w₀) × (length l₀ ≡ m * (m - set.r)))
  exactly = (
    (λ e. let (judged, long) = parts e in ((certificate-exactly p n m A cert (length w₀)).0 judged, long)),
    λ h. passed.1 (after-passed check (unless fits 9 0) ((certificate-exactly p n m A cert (length w₀)).1 h.0) ∙ ap (λ (b : Bool). unless b 9 0) (eq-eqb (length l₀) (m * (m - set.r)) h.1)),
  )

  pub cleared : ¬ (number_of r ≡ 0) → l ≡ zeros (length l₀)
  cleared f = go (check ▷ unless fits 9 0) refl
    where
      go : (o : Outcome) → (check ▷ unless fits 9 0) ≡ o → l ≡ zeros (length l₀)
      go Passed e = absurd (f (passed.1 e))
      go (Refused k d) e = list-is ∙ ap (λ (o : Outcome). filled (length l₀) (listed o (kernel_basis p m set)).list) e ∙ filled_none (length l₀)

  -- whatever is lent, the check speaks first
  pub first : ¬ CertificatePasses p n m A cert (length w₀) → r ≡ check
  first f = go check refl
    where
      go : (o : Outcome) → check ≡ o → r ≡ check
      go Passed e = absurd (f ((certificate-exactly p n m A cert (length w₀)).0 e))
      go (Refused k d) e = outcome-is ∙ ap (λ (o : Outcome). o ▷ unless fits 9 0) e ∙ sym e

  pub other_length : CertificatePasses p n m A cert (length w₀) → ¬ (length l₀ ≡ m * (m - set.r)) → r ≡ Refused wrong_length 0
  other_length h f =
      outcome-is ∙ after-passed check (unless fits 9 0) ((certificate-exactly p n m A cert (length w₀)).1 h)
      ∙ ap (λ (b : Bool). unless b 9 0) (ne_eqb (length l₀) (m * (m - set.r)) f)

  pub judged-none : GoodPlan p n m A → length w₀ ≡ work_length → (among (number_of r) set_faults ≡ false) ↔ ((header_ok p n m cert ≡ true) × Passes p n m A set)
  unfolding among
  judged-none g wide =
      subst (λ (o : Outcome). (among (number_of o) set_faults ≡ false) ↔ ((header_ok p n m cert ≡ true) × Passes p n m A set)) (sym outcome-is)
      (certificate-none p n m A cert (length w₀) g wide (unless fits 9 0) (none fits))
    where
      none : (b : Bool) → among (number_of (unless b 9 0)) set_faults ≡ false
      none true = refl
      none false = refl

  pub given : number_of r ≡ 0 → Checked p n m A set (length w₀) × (l ≡ kernel_basis p m set)
  given e =
      let (judged, long) = parts e in
      let c = certificate-checked p n m A (length w₀) cert judged in (
        c,
        list-is ∙ ap (λ (o : Outcome). filled (length l₀) (listed o (kernel_basis p m set)).list) (passed.0 e)
            ∙ filled-whole (length l₀) (kernel_basis p m set) (basis-length c.prime n m A set c.sized.row-order c.sized.column-order c.judged ∙ sym long),
      )

  pub right : number_of r ≡ 0 → SettingsRight p n m A set l
  right e = let (c, same) = given e in subst (SettingsRight p n m A set) (sym same) (basis-right p n m A set (length w₀) c)

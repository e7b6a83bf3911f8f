-- What a check that passed says of the set.
--   Checked ..             p is prime, the lists have their lengths, the judge passed the set, and the working row is long enough
--   factors-checked        stored factors that passed
--   certificate-checked    the set of a certificate that passed
--   header-passed          and its header
--   SetTest .. X           a check of a set: it passes exactly X, it refuses by 9, 1, 2, 8 or 10 to 14, and what passes is `Checked`
--   stored-test            the check of stored factors
--   bytes-test             the check of a certificate
use mathlib.Core.Path.{◌≡◌}
use mathlib.Core.Logic.{◌↔◌}
use mathlib.Core.Bool.{true}
use mathlib.Core.List.{List, ◌++◌}
use Prim.Native.Nat.{ℕ, ◌≤◌}
use native.Mathlib.Omega.{arith}
use Rattle.refusals.specs.Table.{plan_faults, set_faults}
use Rattle.refusals.specs.Outcome.{Outcome}
use Rattle.refusals.specs.Outcome.{Passed}
use Rattle.refusals.proofs.Refusals.{RefusedBy, both-passed}
use Rattle.algebra.specs.Prime.{Prime}
use Rattle.residue.proofs.Primes.{modulus-prime}
use Rattle.sparse.specs.Matrix.{Compressed}
use Rattle.sparse.specs.Set.{Set}
use Rattle.pluq.specs.Judge.{judge}
use Rattle.certificate.specs.Layout.{Sized}
use Rattle.certificate.specs.Reading.{header_ok, set_of_certificate}
use Rattle.certificate.proofs.Passed.{passed-sized}
use Rattle.call_check.specs.Calls.{factors_outcome, certificate_outcome, check_factors_of, check_certificate_of}
use Rattle.call_check.specs.Passing.{StoredPasses, CertificatePasses}
use Rattle.call_check.proofs.Tested.{factors-good, certificate-good}
use Rattle.call_check.proofs.Theorems.{factors-exactly, factors-numbers, certificate-exactly, certificate-numbers}

pub record Checked (p n m : ℕ) (A : Compressed) (s : Set) (w : ℕ) : Type 0 where
  pub prime : Prime p
  pub sized : Sized n m s
  pub judged : judge p n m A s ≡ Passed
  pub room : m ≤ w

-- both of two tests, one after the other, passed
module _ (p n m : ℕ) (A : Compressed) (w : ℕ) where
  pub factors-checked : (s : Set) → check_factors_of p n m A s w ≡ Passed → Checked p n m A s w
  unfolding check_factors_of
  factors-checked s h =
      let (tested, judged) = both-passed (factors_outcome p n m A s w) (judge p n m A s) h in
      let (g, sized, wide) = factors-good p n m A s w tested in
      record { prime = modulus-prime p g.modulus; sized = sized; judged = judged; room = omega (arith, g.few-columns) }

  module _ (cert : List ℕ) (h : check_certificate_of p n m A cert w ≡ Passed) where
    parts : (certificate_outcome p n m A cert w ≡ Passed) × (judge p n m A (set_of_certificate n m cert) ≡ Passed)
    unfolding check_certificate_of
    parts = both-passed (certificate_outcome p n m A cert w) (judge p n m A (set_of_certificate n m cert)) h

    pub header-passed : header_ok p n m cert ≡ true
    header-passed = (certificate-good p n m A cert w parts.0).1

    pub certificate-checked : Checked p n m A (set_of_certificate n m cert) w
    certificate-checked =
        let (g, header, wide) = certificate-good p n m A cert w parts.0 in
        record { prime = modulus-prime p g.modulus; sized = passed-sized p n m cert header; judged = parts.1; room = omega (arith, g.few-columns) }

-- ---- the two checks, with what they pass

pub record SetTest (p n m : ℕ) (A : Compressed) (s : Set) (w : ℕ) (X : Type 0) : Type 0 where
  pub check : Outcome
  pub exactly : (check ≡ Passed) ↔ X
  pub numbers : RefusedBy (plan_faults ++ set_faults) check
  pub checked : check ≡ Passed → Checked p n m A s w

abbrev pub stored-test : (p n m : ℕ) (A : Compressed) (s : Set) (w : ℕ) → SetTest p n m A s w (StoredPasses p n m A s w)
stored-test p n m A s w =
    record {
      check = check_factors_of p n m A s w;
      exactly = factors-exactly p n m A s w;
      numbers = factors-numbers p n m A s w;
      checked = factors-checked p n m A w s;
    }

abbrev pub bytes-test : (p n m : ℕ) (A : Compressed) (cert : List ℕ) (w : ℕ) → SetTest p n m A (set_of_certificate n m cert) w (CertificatePasses p n m A cert w)
bytes-test p n m A cert w =
    record {
      check = check_certificate_of p n m A cert w;
      exactly = certificate-exactly p n m A cert w;
      numbers = certificate-numbers p n m A cert w;
      checked = certificate-checked p n m A w cert;
    }

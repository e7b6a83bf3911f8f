-- The calls that check a set, in document 01's order of refusals: 9, 1, 2, 8, 10, then 11 to 14.
--   factors_outcome ..        the lengths and the plan of a call with stored factors
--   certificate_outcome ..    the lengths, the plan and the header of a call with a certificate
--   check_factors_of ..        the check of stored factors
--   check_certificate_of ..    the check of a certificate
--   Checks o r w₀ w          the contract of a check: its result, with document 01's number and detail, and the working row left all zero
--   ChecksIn g r work        the same of a lent working row, where g makes the outcome from its length
use Rattle.std.specs.Prelude.{ℕ, ◌≡◌, ◌&&◌, List, eqb, length}
use Rattle.lists.specs.Filled.{zeros}
use Rattle.refusals.specs.Table.{bad_header}
use Rattle.refusals.specs.Refusals.{◌▷◌, unless, number_of, detail_of}
use Rattle.refusals.specs.Outcome.{Outcome}
use Rattle.sparse.specs.Matrix.{Compressed}
use Rattle.sparse.specs.Set.{Set}
use Rattle.sparse.specs.Views.{LentList, before, after}
use Rattle.pluq.specs.Judge.{judge}
use Rattle.certificate.specs.Reading.{header_ok, set_of_certificate}
use Rattle.limits.specs.Limits.{work_length}
use Rattle.call_plan.specs.Tests.{set_lengths, call_outcome}

unfoldable pub factors_outcome : (p n m : ℕ) → Compressed → Set → ℕ → Outcome
factors_outcome p n m A s w = call_outcome (set_lengths n m s && eqb w work_length) p n m A

unfoldable pub certificate_outcome : (p n m : ℕ) → Compressed → List ℕ → ℕ → Outcome
certificate_outcome p n m A cert w = call_outcome (eqb w work_length) p n m A ▷ unless (header_ok p n m cert) bad_header 0

unfoldable pub check_factors_of : (p n m : ℕ) → Compressed → Set → ℕ → Outcome
check_factors_of p n m A s w = factors_outcome p n m A s w ▷ judge p n m A s

unfoldable pub check_certificate_of : (p n m : ℕ) → Compressed → List ℕ → ℕ → Outcome
check_certificate_of p n m A cert w = certificate_outcome p n m A cert w ▷ judge p n m A (set_of_certificate n m cert)

pub record Checks (o r : Outcome) (w₀ w : List ℕ) : Type 0 where
  pub outcome : r ≡ o
  pub number : number_of r ≡ number_of o
  pub detail : detail_of r ≡ detail_of o
  pub cleared : w ≡ zeros (length w₀)

abbrev pub ChecksIn : (ℕ → Outcome) → Outcome → (work : LentList) → Type 0
ChecksIn g r work = Checks (g (length (before work))) r (before work) (after work)

-- The call that writes a certificate: the check of the stored factors first, a buffer that is too short last.
--   write_outcome ..         9, 1, 2, 8, 11 to 14, then 9 for the buffer
--   bytes_given o cert       what the buffer is given: the certificate where the outcome is passed, else nothing
--   WritesCertificate ..    the contract: outcome with document 01's number and detail, length, every byte of the buffer, and the working row
--                           left all zero
--   WritesIn ..             the same of a lent buffer and working row, where g makes the outcome from their lengths
use Rattle.std.specs.Prelude.{ℕ, ◌≡◌, List, [], length}
use Rattle.lists.specs.Filled.{zeros, filled}
use Rattle.refusals.specs.Refusals.{◌▷◌, number_of, detail_of}
use Rattle.refusals.specs.Outcome.{Outcome}
use Rattle.refusals.specs.Outcome.{Passed, Refused}
use Rattle.sparse.specs.Matrix.{Compressed}
use Rattle.sparse.specs.Set.{Set}
use Rattle.sparse.specs.Views.{LentList, before, after}
use Rattle.certificate.specs.Layout.{certificate_of}
use Rattle.certificate.specs.Writing.{room_for}
use Rattle.call_check.specs.Calls.{check_factors_of}
use Rattle.call_write.specs.Written.{Written}

unfoldable pub write_outcome : (p n m : ℕ) → Compressed → Set → (w room : ℕ) → Outcome
write_outcome p n m A s w room = check_factors_of p n m A s w ▷ room_for room (certificate_of p n m s)

abbrev pub bytes_given : Outcome → List ℕ → List ℕ
bytes_given Passed cert = cert
bytes_given (Refused number detail) cert = []

pub record WritesCertificate (o : Outcome) (cert : List ℕ) (r : Written) (b₀ b w₀ w : List ℕ) : Type 0 where
  pub outcome : r.outcome ≡ o
  pub number : number_of r.outcome ≡ number_of o
  pub detail : detail_of r.outcome ≡ detail_of o
  pub size : r.length ≡ length (bytes_given o cert)
  pub buffer : b ≡ filled (length b₀) (bytes_given o cert)
  pub cleared : w ≡ zeros (length w₀)

abbrev pub WritesIn : (ℕ → ℕ → Outcome) → List ℕ → Written → (buffer work : LentList) → Type 0
WritesIn g cert r buffer work =
    WritesCertificate (g (length (before work)) (length (before buffer))) cert r (before buffer) (after buffer) (before work) (after work)

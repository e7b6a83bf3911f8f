-- Writing a certificate into a lent buffer.
--   room_for n cert               the test that a buffer of n bytes holds the certificate (else refusal 9)
--   written n cert               what a buffer of n bytes is given: the certificate, or nothing where it is refused
--   Writes cert b₀ b size        the contract of writing: the length returned, and every byte of the buffer
--   Writable n m s               a set that can be written: its lists have their lengths, and the entry counts are 32-bit numbers
--   CertificateRoom p n m s b    such a set, and a buffer that holds its certificate
use Rattle.std.specs.Prelude.{ℕ, ◌≤◌, ◌<◌, ◌^◌, cond, List, [], ◌≡◌, leb, length}
use Rattle.lists.specs.Filled.{filled}
use Rattle.refusals.specs.Table.{wrong_length}
use Rattle.refusals.specs.Refusals.{unless}
use Rattle.refusals.specs.Outcome.{Outcome}
use Rattle.sparse.specs.Set.{Set}
use Rattle.certificate.specs.Layout.{certificate_of, Sized}

abbrev pub room_for : ℕ → List ℕ → Outcome
room_for n cert = unless (leb (length cert) n) wrong_length 0

unfoldable pub written : ℕ → List ℕ → List ℕ
written n cert = cond (leb (length cert) n) cert []

pub record Writes (cert b₀ b : List ℕ) (size : ℕ) : Type 0 where
  pub size_is : size ≡ length (written (length b₀) cert)
  pub buffer-is : b ≡ filled (length b₀) (written (length b₀) cert)

pub record Writable (n m : ℕ) (s : Set) : Type 0 where
  pub sized : Sized n m s
  pub lcount : length s.L.cols < 2 ^ 32
  pub ucount : length s.U.cols < 2 ^ 32

pub record CertificateRoom (p n m : ℕ) (s : Set) (b : List ℕ) : Type 0 where
  pub writable : Writable n m s
  pub room : length (certificate_of p n m s) ≤ length b

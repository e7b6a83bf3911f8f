-- The call that gives the basis of the kernel from a certificate (document 02, slip 7), in document 01's order of refusals: 9, 1, 2, 8, 10, 11 to 14, and then 9 for
-- the list of the settings, whose length is known only now.
--   kernel_after check m r b    the check of the set, then 9 unless there are b = m (m - r) cells
--   kernel_certificate_of ..     the settings of the free columns, one after another
-- The contract is that of a list with owners: `ListsOwned` (call_owned/specs/Owned).
use Rattle.std.specs.Prelude.{ℕ, ◌-◌, ◌*◌, List, eqb}
use Rattle.refusals.specs.Table.{wrong_length}
use Rattle.refusals.specs.Refusals.{◌▷◌, unless}
use Rattle.refusals.specs.Outcome.{Outcome}
use Rattle.sparse.specs.Matrix.{Compressed}
use Rattle.row_space.specs.Kernel.{kernel_basis}
use Rattle.certificate.specs.Reading.{set_of_certificate}
use Rattle.call_check.specs.Calls.{check_certificate_of}
use Rattle.call_open.specs.Calls.{Listed, listed}

unfoldable pub kernel_after : Outcome → (m r b : ℕ) → Outcome
kernel_after check m r b = check ▷ unless (eqb b (m * (m - r))) wrong_length 0

unfoldable pub kernel_certificate_of : (p n m : ℕ) → Compressed → (cert : List ℕ) → (b w : ℕ) → Listed
kernel_certificate_of p n m A cert b w =
    let s = set_of_certificate n m cert in
    listed (kernel_after (check_certificate_of p n m A cert w) m s.r b) (kernel_basis p m s)

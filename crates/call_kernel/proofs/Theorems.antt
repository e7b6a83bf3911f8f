-- What the call that gives the settings of the free columns says, with what it returned and left (`Lists`), whatever certificate it was given, whoever made it.
-- k is the number of owners.
--   kernel-exactly    0 is returned exactly if there are m owners, the certificate passes the check, and the list has m (m - r) cells
--   kernel-by         the numbers of the table by which it refuses
--   kernel-cleared    a refusal leaves the list all zero
--   kernel-owners     9 unless there are m owners
--   kernel-last       a certificate that does not pass is refused as by its check, whatever the length of the list; one that passes with a list of another
--                     length by 9
--   kernel-judged     after the tests of lengths and plan, none of 10 to 14 is returned exactly if header, shape and product are right
--   kernel-right      0: the list is the settings of the free columns, and has their meaning
--   kernel-same       0 for two certificates of one plan that have the same free columns: the lists are the same
use mathlib.Core.Path.{◌≡◌, sym, ◌∙◌}
use mathlib.Core.Logic.{◌↔◌}
use mathlib.Core.Bool.{true, false}
use mathlib.Core.List.{List}
use Prim.Native.Nat.{ℕ, ◌-◌, ◌*◌}
use lib.ListN.{length}
use Rattle.lists.specs.Tests.{among}
use Rattle.lists.specs.Filled.{zeros}
use Rattle.refusals.specs.Table.{wrong_length, set_faults}
use Rattle.refusals.specs.Refusals.{number_of, NumberFrom}
use Rattle.refusals.specs.Outcome.{Outcome}
use Rattle.refusals.specs.Outcome.{Refused}
use Rattle.sparse.specs.Matrix.{Compressed}
use Rattle.sparse.specs.Set.{Set}
use Rattle.pluq.specs.Judge.{Passes}
use Rattle.row_space.specs.Kernel.{free_columns, kernel_basis}
use Rattle.row_space.proofs.Freedom.{settings-agree}
use Rattle.certificate.specs.Reading.{header_ok, set_of_certificate}
use Rattle.limits.specs.Limits.{work_length}
use Rattle.call_plan.specs.Accepted.{GoodPlan}
use Rattle.call_check.specs.Calls.{check_certificate_of}
use Rattle.call_check.specs.Passing.{CertificatePasses}
use Rattle.call_check.proofs.Checked.{Checked}
use Rattle.call_open.specs.Calls.{Lists}
use Rattle.call_owned.specs.Owned.{owned_list}
use Rattle.call_owned.proofs.Owned.{nine-first, lists-right, lists-unowned, lists-done, lists-exactly, lists-by, lists-cleared}
use Rattle.call_kernel.specs.Calls.{kernel_certificate_of}
use Rattle.call_kernel.specs.Meaning.{SettingsRight}
use Rattle.call_kernel.proofs.Tested.{faults, exactly, by, cleared, first, other_length, judged-none, given, right}

module _ (p n m k : ℕ) (A : Compressed) (cert : List ℕ) (r : Outcome) (l₀ l w₀ w : List ℕ)
    (call : Lists (owned_list k m (kernel_certificate_of p n m A cert (length l₀) (length w₀))) r l₀ l w₀ w) where
  abbrev set : Set
  set = set_of_certificate n m cert

  pub kernel-exactly : (number_of r ≡ 0) ↔ ((k ≡ m) × (CertificatePasses p n m A cert (length w₀) × (length l₀ ≡ m * (m - set.r))))
  kernel-exactly = lists-exactly k m _ r l₀ l w₀ w call _ (exactly p n m A cert r l₀ l w₀ w)

  pub kernel-by : NumberFrom faults (number_of r)
  kernel-by = lists-by k m _ r l₀ l w₀ w call faults (nine-first _) (by p n m A cert r l₀ l w₀ w)

  pub kernel-cleared : ¬ (number_of r ≡ 0) → l ≡ zeros (length l₀)
  kernel-cleared = lists-cleared k m _ r l₀ l w₀ w call (cleared p n m A cert r l₀ l w₀ w)

  pub kernel-owners : ¬ (k ≡ m) → number_of r ≡ wrong_length
  kernel-owners = lists-unowned k m _ r l₀ l w₀ w call

  pub kernel-last : k ≡ m
      → ((¬ CertificatePasses p n m A cert (length w₀)) → r ≡ check_certificate_of p n m A cert (length w₀))
      × (CertificatePasses p n m A cert (length w₀) → ¬ (length l₀ ≡ m * (m - set.r)) → r ≡ Refused wrong_length 0)
  kernel-last e = let c = lists-right k m _ r l₀ l w₀ w call e in (first p n m A cert r l₀ l w₀ w c, other_length p n m A cert r l₀ l w₀ w c)

  pub kernel-judged : k ≡ m → GoodPlan p n m A → length w₀ ≡ work_length → (among (number_of r) set_faults ≡ false) ↔ ((header_ok p n m cert ≡ true) × Passes p n m A set)
  kernel-judged e = judged-none p n m A cert r l₀ l w₀ w (lists-right k m _ r l₀ l w₀ w call e)

  pub kernel-right : number_of r ≡ 0 → SettingsRight p n m A set l
  kernel-right e = right p n m A cert r l₀ l w₀ w (lists-done k m _ r l₀ l w₀ w call e) e

  kernel-given : number_of r ≡ 0 → Checked p n m A set (length w₀) × (l ≡ kernel_basis p m set)
  kernel-given e = given p n m A cert r l₀ l w₀ w (lists-done k m _ r l₀ l w₀ w call e) e

pub kernel-same : (p n m k k' : ℕ) (A : Compressed) (cert cert' : List ℕ) (r r' : Outcome) (l₀ l w₀ w l₀' l' w₀' w' : List ℕ)
    → Lists (owned_list k m (kernel_certificate_of p n m A cert (length l₀) (length w₀))) r l₀ l w₀ w
    → Lists (owned_list k' m (kernel_certificate_of p n m A cert' (length l₀') (length w₀'))) r' l₀' l' w₀' w'
    → number_of r ≡ 0 → number_of r' ≡ 0 → free_columns m (set_of_certificate n m cert) ≡ free_columns m (set_of_certificate n m cert') → l ≡ l'
kernel-same p n m k k' A cert cert' r r' l₀ l w₀ w l₀' l' w₀' w' call call' e e' free =
    let (c, same) = kernel-given p n m k A cert r l₀ l w₀ w call e in
    let (c', same') = kernel-given p n m k' A cert' r' l₀' l' w₀' w' call' e' in
    same
    ∙ settings-agree c.prime n m A (set_of_certificate n m cert) (set_of_certificate n m cert') c.sized.row-order c.sized.column-order c.judged
    c'.sized.row-order c'.sized.column-order c'.judged free
    ∙ sym same'

-- Document 02, slip 7: every setting that fits. What the call that gives the settings of the free columns returns and leaves, from any certificate, whoever made it.
-- The call takes k owners, which are to be m. The free columns are the columns that are no pivot columns (document 02's non-pivot words).
--   freedom-exactly        the settings are given exactly if there are m owners, the certificate passes, and m times (m - r) cells are lent
--   freedom-by             the numbers by which it refuses
--   freedom-owners         9 unless there are m owners, whatever else is right or wrong
--   freedom-last           the cells are counted last: a certificate that does not pass is refused by its own number, whatever is lent
--   freedom-cleared        a refusal leaves the list all zero, whatever its length
--   freedom-judged         a certificate that is judged: none of 10 to 14 is returned exactly if layout, shape and product are right
-- Where it has returned 0:
--   freedom-columns        the free columns are m - r, rising, and just those that are no pivot columns
--   freedom-cells          m times (m - r) cells are left, all residues
--   freedom-setting        block l is 1 at free column l, 0 at the other free columns, and has no effect on any slot
--   freedom-only           no other list is so
--   freedom-alike          two settings, of any numbers, give the same slots exactly if one is the other and a combination of these
--   freedom-unique         and then by one combination only
--   freedom-one            its factors are the differences at the free columns
--   freedom-same           two certificates with the same free columns leave the same list
-- What the question program prints with the verb `settings`:
--   settings-refused, settings-storage    the line of the first refusal: the text states no plan, or its factors overflow
--   settings-right                        the number of free columns, and a line for each of these settings
use Prim.Native.Nat.{ℕ, ◌+◌, ◌-◌, ◌*◌, ◌<◌}
use mathlib.Core.Path.{◌≡◌}
use mathlib.Core.Logic.{◌↔◌}
use mathlib.Core.Bool.{true, false}
use mathlib.Core.List.{List, ◌++◌}
use lib.ListN.{length, get_or}
use Rattle.lists.specs.Filled.{zeros}
use Rattle.lists.specs.Tests.{among}
use Rattle.refusals.specs.Table.{text_faults, plan_faults, set_faults, storage_too_short, wrong_length}
use Rattle.refusals.specs.Refusals.{number_of, NumberFrom}
use Rattle.refusals.specs.Outcome.{Outcome}
use Rattle.refusals.specs.Outcome.{Refused}
use Rattle.algebra.specs.Congruence.{◌≈⟨◌⟩◌}
use Rattle.algebra.specs.Matrix.{Vector, vector}
use Rattle.algebra.specs.Answer.{ClosedAnswer}
use Rattle.sparse.specs.Row.{Below}
use Rattle.sparse.specs.Matrix.{Compressed, matrix}
use Rattle.sparse.specs.Set.{Set}
use Rattle.pluq.specs.Judge.{Passes}
use Rattle.row_space.specs.Kernel.{free_columns, GiveAlike, Shifted}
use Rattle.certificate.specs.Reading.{header_ok, set_of_certificate}
use Rattle.limits.specs.Limits.{work_length, largest_entries}
use Rattle.call_plan.specs.Accepted.{GoodPlan}
use Rattle.call_check.specs.Calls.{check_certificate_of}
use Rattle.call_check.specs.Passing.{CertificatePasses}
use Rattle.call_open.specs.Calls.{Lists}
use Rattle.call_owned.specs.Owned.{owned_list}
use Rattle.call_kernel.specs.Calls.{kernel_certificate_of}
use Rattle.call_kernel.proofs.Theorems as kernels
use Rattle.text_owners.specs.Stating.{StatesText}
use Rattle.print_text.specs.Report.{refusal_text}
use Rattle.print_text.specs.Printed.{PrintsRefusal}
use Rattle.stages.specs.Stages.{reading}
use Rattle.stages.specs.Meaning.{FitsAll, OverflowsAt}
use Rattle.ask_settings.specs.Settings.{settings_of}
use Rattle.ask_settings.specs.Meaning.{SettingsTold}
use Rattle.ask_settings.proofs.Theorems as told

module _ (p n m k : ℕ) (A : Compressed) (cert : List ℕ) (r : Outcome) (l₀ l w₀ w : List ℕ)
    (call : Lists (owned_list k m (kernel_certificate_of p n m A cert (length l₀) (length w₀))) r l₀ l w₀ w) where
  abbrev held : Set
  held = set_of_certificate n m cert

  pub freedom-exactly : (number_of r ≡ 0) ↔ ((k ≡ m) × (CertificatePasses p n m A cert (length w₀) × (length l₀ ≡ m * (m - held.r))))
  freedom-exactly = kernels.kernel-exactly p n m k A cert r l₀ l w₀ w call

  pub freedom-by : NumberFrom (plan_faults ++ set_faults) (number_of r)
  freedom-by = kernels.kernel-by p n m k A cert r l₀ l w₀ w call

  pub freedom-owners : ¬ (k ≡ m) → number_of r ≡ wrong_length
  freedom-owners = kernels.kernel-owners p n m k A cert r l₀ l w₀ w call

  pub freedom-last : k ≡ m
      → ((¬ CertificatePasses p n m A cert (length w₀)) → r ≡ check_certificate_of p n m A cert (length w₀))
      × (CertificatePasses p n m A cert (length w₀) → ¬ (length l₀ ≡ m * (m - held.r)) → r ≡ Refused wrong_length 0)
  freedom-last = kernels.kernel-last p n m k A cert r l₀ l w₀ w call

  pub freedom-cleared : ¬ (number_of r ≡ 0) → l ≡ zeros (length l₀)
  freedom-cleared = kernels.kernel-cleared p n m k A cert r l₀ l w₀ w call

  pub freedom-judged : k ≡ m → GoodPlan p n m A → length w₀ ≡ work_length → (among (number_of r) set_faults ≡ false) ↔ ((header_ok p n m cert ≡ true) × Passes p n m A held)
  freedom-judged = kernels.kernel-judged p n m k A cert r l₀ l w₀ w call

  module _ (done : number_of r ≡ 0) where
    pub freedom-columns : (length (free_columns m held) ≡ m - held.r)
        × ((a b : ℕ) → a < b → b < m - held.r → get_or (free_columns m held) a 0 < get_or (free_columns m held) b 0)
        × ((c : ℕ) → c < m → (among c (free_columns m held) ≡ true) ↔ ((i : ℕ) → i < held.r → ¬ (vector held.C i ≡ c)))
    freedom-columns = let s = kernels.kernel-right p n m k A cert r l₀ l w₀ w call done in (s.count, s.rising, s.free)

    pub freedom-cells : (length l ≡ m * (m - held.r)) × Below p l
    freedom-cells = let s = kernels.kernel-right p n m k A cert r l₀ l w₀ w call done in (s.long, s.residues)

    pub freedom-setting : (i : ℕ) → i < m - held.r → ClosedAnswer p n m held.r (matrix A) (vector held.C) (get_or (free_columns m held) i 0) (λ j. get_or l (i * m + j) 0)
    freedom-setting = (kernels.kernel-right p n m k A cert r l₀ l w₀ w call done).block

    pub freedom-only : (i : ℕ) → i < m - held.r → (z : List ℕ) → length z ≡ m → ClosedAnswer p n m held.r (matrix A) (vector held.C) (get_or (free_columns m held) i 0) (vector z)
        → (j : ℕ) → j < m → get_or z j 0 ≡ get_or l (i * m + j) 0
    freedom-only = (kernels.kernel-right p n m k A cert r l₀ l w₀ w call done).only

    pub freedom-alike : (a b : Vector) → GiveAlike p n m (matrix A) a b ↔ ((c : Vector) × Shifted p m (m - held.r) l c a b)
    freedom-alike = (kernels.kernel-right p n m k A cert r l₀ l w₀ w call done).alike

    pub freedom-unique : (a b c c' : Vector) → Shifted p m (m - held.r) l c a b → Shifted p m (m - held.r) l c' a b → (i : ℕ) → i < m - held.r → c i ≈⟨ p ⟩ c' i
    freedom-unique = (kernels.kernel-right p n m k A cert r l₀ l w₀ w call done).unique

    pub freedom-one : (a b c : Vector) → Shifted p m (m - held.r) l c a b → (i : ℕ) → i < m - held.r
        → c i + b (get_or (free_columns m held) i 0) ≈⟨ p ⟩ a (get_or (free_columns m held) i 0)
    freedom-one = (kernels.kernel-right p n m k A cert r l₀ l w₀ w call done).one

pub freedom-same : (p n m k k' : ℕ) (A : Compressed) (cert cert' : List ℕ) (r r' : Outcome) (l₀ l w₀ w l₀' l' w₀' w' : List ℕ)
    → Lists (owned_list k m (kernel_certificate_of p n m A cert (length l₀) (length w₀))) r l₀ l w₀ w
    → Lists (owned_list k' m (kernel_certificate_of p n m A cert' (length l₀') (length w₀'))) r' l₀' l' w₀' w'
    → number_of r ≡ 0 → number_of r' ≡ 0 → free_columns m (set_of_certificate n m cert) ≡ free_columns m (set_of_certificate n m cert') → l ≡ l'
freedom-same = kernels.kernel-same

-- ---- the program: what it prints, in all

pub settings-refused : (text : List ℕ) → ¬ StatesText largest_entries text → PrintsRefusal text_faults (settings_of text)
settings-refused = told.settings-refused

pub settings-storage : (text : List ℕ) → StatesText largest_entries text → ¬ FitsAll (reading text)
    → (i : ℕ) × (settings_of text ≡ refusal_text storage_too_short (i + 1)) × OverflowsAt (reading text) i
settings-storage = told.settings-storage

pub settings-right : (text : List ℕ) → StatesText largest_entries text → FitsAll (reading text) → SettingsTold (reading text) (settings_of text)
settings-right = told.settings-right

-- Document 02, slip 6: the gate's side. What the calls that are given slot values return and leave, from whatever set, whoever made it.
-- A set is stored factors (`stored`) or a certificate (`bytes`). The calls take k owners, which are to be m.
--   .. -exactly             a call answers exactly if the set passes the check, there are m owners, h holds n residues, and s and w have m and n cells
--   .. -by                  the numbers by which it refuses
--   .. -owners              9 unless there are m owners, whatever else is right or wrong
--   .. -cleared             a refusal leaves s and w all zero
--   .. -judged              a set that is judged: none of 10 to 14 is returned exactly if it has the published shape and its product is A
--   .. -answered            n residues are answered, where a call that checks has returned 0 for the set
--   .. -solved              solved exactly if some setting of the words gives the slot values
--   .. -setting             then s is the one that is 0 at every word that is no pivot word, and w is all zero
--   .. -contradicted        a contradiction exactly if none does
--   .. -combination         then w A = 0 and w h is not 0; w is 1 at one slot that is no pivot row and 0 at the others; at a lower-numbered slot no such w works; no
--                           other list is so, and s is all zero
--   slots-agree             so all answers to the same slot values agree, whichever sets they came from
-- What the question program prints with the verb `words`:
--   words-refused, words-storage, words-length, words-value   the line of the first refusal: the text states no plan, its factors overflow, the slot values are not n,
--                                                             or one of them is no residue
--   words_right             the line of the setting or of the combination, as above
use Prim.Native.Nat.{ℕ, ◌+◌}
use mathlib.Core.Path.{◌≡◌, refl}
use mathlib.Core.Logic.{◌↔◌}
use mathlib.Core.Bool.{true, false}
use mathlib.Core.List.{List, [], ◌∷◌, ◌++◌}
use lib.ListN.{length, take}
use Rattle.lists.specs.Filled.{zeros}
use Rattle.lists.specs.Tests.{among}
use Rattle.refusals.specs.Table.{text_faults, plan_faults, set_faults, storage_too_short, wrong_length, question_too_large}
use Rattle.refusals.specs.Refusals.{number_of, NumberFrom}
use Rattle.refusals.specs.Outcome.{Outcome}
use Rattle.algebra.specs.Matrix.{vector}
use Rattle.algebra.specs.ColumnSpace.{InColumnSpace}
use Rattle.sparse.specs.Row.{Below}
use Rattle.sparse.specs.Matrix.{Compressed, matrix}
use Rattle.sparse.specs.Set.{Set}
use Rattle.pluq.specs.Judge.{Passes}
use Rattle.certificate.specs.Layout.{Sized}
use Rattle.certificate.specs.Reading.{header_ok, set_of_certificate}
use Rattle.limits.specs.Limits.{work_length, largest_entries}
use Rattle.call_plan.specs.Accepted.{GoodPlan}
use Rattle.call_check.specs.Calls.{check_factors_of, check_certificate_of, Checks}
use Rattle.call_check.specs.Passing.{StoredPasses, CertificatePasses}
use Rattle.call_owned.specs.Owned.{owned_outcome}
use Rattle.call_owned.proofs.Owned.{checks-done}
use Rattle.call_slots.specs.Calls.{solution_number, slots_factors_of, slots_certificate_of, Solves}
use Rattle.call_slots.specs.Meaning.{Heard, LeftSolved, LeftContradiction, SolutionOf}
use Rattle.call_slots.specs.Solution.{Solution}
use Rattle.call_slots.proofs.Theorems as slots
use Rattle.text_owners.specs.Stating.{StatesText}
use Rattle.print_text.specs.Report.{refusal_text}
use Rattle.print_text.specs.Printed.{PrintsRefusal}
use Rattle.stages.specs.Stages.{reading}
use Rattle.stages.specs.Meaning.{FitsAll, OverflowsAt}
use Rattle.ask_lib.specs.Meaning.{FirstTooLarge}
use Rattle.ask_words.specs.Solving.{TellsWords}
use Rattle.ask_words.specs.Meaning.{WordsRight}
use Rattle.ask_words.proofs.Theorems as words

-- ---- from stored factors: s₀, w₀ and v₀ are lent, st, w and v are left

module _ (p n m k : ℕ) (A : Compressed) (s : Set) (h : List ℕ) (r : Solution) (s₀ st w₀ w v₀ v : List ℕ)
    (call : Solves (slots_factors_of p n m k A s h (length s₀) (length w₀) (length v₀)) r s₀ st w₀ w v₀ v) where
  pub slots-stored-exactly : (solution_number r ≡ 0) ↔ (StoredPasses p n m A s (length v₀) × Heard p n m k h (length s₀) (length w₀))
  slots-stored-exactly = slots.stored-heard p n m k A s h r s₀ st w₀ w v₀ v call

  pub slots-stored-by : NumberFrom ((wrong_length ∷ []) ++ ((plan_faults ++ set_faults) ++ (question_too_large ∷ []))) (solution_number r)
  slots-stored-by = slots.stored-by p n m k A s h r s₀ st w₀ w v₀ v call

  pub slots-stored-owners : ¬ (k ≡ m) → solution_number r ≡ wrong_length
  slots-stored-owners = slots.stored-owners p n m k A s h r s₀ st w₀ w v₀ v call

  pub slots-stored-cleared : ¬ (solution_number r ≡ 0) → (st ≡ zeros (length s₀)) × (w ≡ zeros (length w₀))
  slots-stored-cleared = slots.stored-cleared p n m k A s h r s₀ st w₀ w v₀ v call

  pub slots-stored-judged : GoodPlan p n m A → Sized n m s → length v₀ ≡ work_length → k ≡ m → length h ≡ n → length s₀ ≡ m → length w₀ ≡ n
      → (among (solution_number r) set_faults ≡ false) ↔ Passes p n m A s
  slots-stored-judged = slots.stored-judged p n m k A s h r s₀ st w₀ w v₀ v call

  pub slots-stored-answered : (j : ℕ) (q : Outcome) (w₁ w₂ : List ℕ) → Checks (owned_outcome j m (check_factors_of p n m A s (length w₁))) q w₁ w₂ → number_of q ≡ 0
      → length v₀ ≡ work_length → Heard p n m k h (length s₀) (length w₀) → solution_number r ≡ 0
  slots-stored-answered j q w₁ w₂ check passed = slots.stored-after p n m k A s h r s₀ st w₀ w v₀ v call q w₁ w₂ (checks-done j m _ q w₁ w₂ check passed) passed

  pub slots-stored-solved : solution_number r ≡ 0 → (r ≡ Solution.Solved) ↔ InColumnSpace p n m (matrix A) (vector h)
  slots-stored-solved done = (slots.stored-right p n m k A s h r s₀ st w₀ w v₀ v call done).solved-exactly

  pub slots-stored-setting : r ≡ Solution.Solved → LeftSolved p n m A s h st w
  slots-stored-setting e = (slots.stored-right p n m k A s h r s₀ st w₀ w v₀ v call (rw e refl)).solved-left e

  pub slots-stored-contradicted : solution_number r ≡ 0 → (r ≡ Solution.Contradiction) ↔ (¬ InColumnSpace p n m (matrix A) (vector h))
  slots-stored-contradicted done = (slots.stored-right p n m k A s h r s₀ st w₀ w v₀ v call done).contradiction-exactly

  pub slots-stored-combination : r ≡ Solution.Contradiction → LeftContradiction p n m A s h st w
  slots-stored-combination e = (slots.stored-right p n m k A s h r s₀ st w₀ w v₀ v call (rw e refl)).contradiction-left e

-- ---- from a certificate

module _ (p n m k : ℕ) (A : Compressed) (cert h : List ℕ) (r : Solution) (s₀ st w₀ w v₀ v : List ℕ)
    (call : Solves (slots_certificate_of p n m k A cert h (length s₀) (length w₀) (length v₀)) r s₀ st w₀ w v₀ v) where
  abbrev held : Set
  held = set_of_certificate n m cert

  pub slots-bytes-exactly : (solution_number r ≡ 0) ↔ (CertificatePasses p n m A cert (length v₀) × Heard p n m k h (length s₀) (length w₀))
  slots-bytes-exactly = slots.bytes-heard p n m k A cert h r s₀ st w₀ w v₀ v call

  pub slots-bytes-by : NumberFrom ((wrong_length ∷ []) ++ ((plan_faults ++ set_faults) ++ (question_too_large ∷ []))) (solution_number r)
  slots-bytes-by = slots.bytes-by p n m k A cert h r s₀ st w₀ w v₀ v call

  pub slots-bytes-owners : ¬ (k ≡ m) → solution_number r ≡ wrong_length
  slots-bytes-owners = slots.bytes-owners p n m k A cert h r s₀ st w₀ w v₀ v call

  pub slots-bytes-cleared : ¬ (solution_number r ≡ 0) → (st ≡ zeros (length s₀)) × (w ≡ zeros (length w₀))
  slots-bytes-cleared = slots.bytes-cleared p n m k A cert h r s₀ st w₀ w v₀ v call

  pub slots-bytes-judged : GoodPlan p n m A → length v₀ ≡ work_length → k ≡ m → length h ≡ n → length s₀ ≡ m → length w₀ ≡ n
      → (among (solution_number r) set_faults ≡ false) ↔ ((header_ok p n m cert ≡ true) × Passes p n m A held)
  slots-bytes-judged = slots.bytes-judged p n m k A cert h r s₀ st w₀ w v₀ v call

  pub slots-bytes-answered : (j : ℕ) (q : Outcome) (w₁ w₂ : List ℕ) → Checks (owned_outcome j m (check_certificate_of p n m A cert (length w₁))) q w₁ w₂ → number_of q ≡ 0
      → length v₀ ≡ work_length → Heard p n m k h (length s₀) (length w₀) → solution_number r ≡ 0
  slots-bytes-answered j q w₁ w₂ check passed = slots.bytes_after p n m k A cert h r s₀ st w₀ w v₀ v call q w₁ w₂ (checks-done j m _ q w₁ w₂ check passed) passed

  pub slots-bytes-solved : solution_number r ≡ 0 → (r ≡ Solution.Solved) ↔ InColumnSpace p n m (matrix A) (vector h)
  slots-bytes-solved done = (slots.bytes-right p n m k A cert h r s₀ st w₀ w v₀ v call done).solved-exactly

  pub slots-bytes-setting : r ≡ Solution.Solved → LeftSolved p n m A held h st w
  slots-bytes-setting e = (slots.bytes-right p n m k A cert h r s₀ st w₀ w v₀ v call (rw e refl)).solved-left e

  pub slots-bytes-contradicted : solution_number r ≡ 0 → (r ≡ Solution.Contradiction) ↔ (¬ InColumnSpace p n m (matrix A) (vector h))
  slots-bytes-contradicted done = (slots.bytes-right p n m k A cert h r s₀ st w₀ w v₀ v call done).contradiction-exactly

  pub slots-bytes-combination : r ≡ Solution.Contradiction → LeftContradiction p n m A held h st w
  slots-bytes-combination e = (slots.bytes-right p n m k A cert h r s₀ st w₀ w v₀ v call (rw e refl)).contradiction-left e

-- r and r' are what two calls answered to h, each from stored factors or from a certificate, whoever made them
pub slots-agree : (p n m : ℕ) (A : Compressed) (h : List ℕ) (r r' : Solution) → SolutionOf p n m A h r → SolutionOf p n m A h r'
    → ((r ≡ Solution.Solved) ↔ (r' ≡ Solution.Solved)) × ((r ≡ Solution.Contradiction) ↔ (r' ≡ Solution.Contradiction))
slots-agree = slots.solutions-agree

-- ---- the program: what is printed stands in the first `size` bytes of the buffer b

module _ (text h : List ℕ) (size : ℕ) (b₀ b w₀ w : List ℕ) (call : TellsWords text h size b₀ b w₀ w) where
  pub words-refused : ¬ StatesText largest_entries text → PrintsRefusal text_faults (take size b)
  words-refused = words.words-refused text h size b₀ b w₀ w call

  module _ (states : StatesText largest_entries text) where
    pub words-storage : ¬ FitsAll (reading text) → (i : ℕ) × (take size b ≡ refusal_text storage_too_short (i + 1)) × OverflowsAt (reading text) i
    words-storage = words.words-storage text h size b₀ b w₀ w call states

    pub words-length : FitsAll (reading text) → ¬ (length h ≡ (reading text).result.n) → take size b ≡ refusal_text wrong_length 0
    words-length = words.words-length text h size b₀ b w₀ w call states

    pub words-value : FitsAll (reading text) → length h ≡ (reading text).result.n → ¬ Below (reading text).result.p h
        → (i : ℕ) × (take size b ≡ refusal_text question_too_large (i + 1)) × FirstTooLarge (reading text).result.p h i
    words-value = words.words-value text h size b₀ b w₀ w call states

    pub words_right : FitsAll (reading text) → length h ≡ (reading text).result.n → Below (reading text).result.p h → WordsRight (reading text) h (take size b)
    words_right = words.words_right text h size b₀ b w₀ w call states

-- The calls that answer slot values (document 02, slip 6), in document 01's order of refusals: 9, 1, 2, 8, 10, 11 to 14, then 15.
--   solution_number, solution_detail   document 01's number of an answer, 0 where it is solved or a contradiction, and its detail
--   solution_of v                     the answer with the verdict v
--   given_solution r                  the answer that a call's result is
--   slot_lengths n m k h a b          k = m owners, n slot values h, a = m cells for s and b = n cells for w
--   slots_after check ..              the outcome of a call with slot values: 9 for its lists, the check of the set, then 15
--   SlotsGiven                       what a call with slot values gives: its outcome, the answer, and the lists that go to s and w
--   slots_given o a                   a refusal with no list, or the answer a
--   slots_factors_of ..                the answer from stored factors
--   slots_certificate_of ..            the answer from a certificate
--   Solves g r s₀ s w₀ w v₀ v        the contract of such a call: its result, every cell of s and w, and the working row left all zero
--   SolvesIn g r s w work            the same of lent lists, where g makes what is given from their lengths
use Rattle.std.specs.Prelude.{ℕ, ◌≡◌, Bool, ◌&&◌, List, [], Result, Ok, Err, eqb, length}
use Rattle.lists.specs.Filled.{zeros, filled}
use Rattle.refusals.specs.Table.{wrong_length}
use Rattle.refusals.specs.declared.Refusal.{Refusal}
use Rattle.refusals.specs.Faults.{number}
use Rattle.refusals.specs.Refusals.{◌▷◌, unless, number_of, detail_of}
use Rattle.refusals.specs.Outcome.{Outcome}
use Rattle.algebra.specs.Matrix.{vector}
use Rattle.sparse.specs.Matrix.{Compressed}
use Rattle.sparse.specs.Set.{Set}
use Rattle.sparse.specs.Views.{LentList, before, after}
use Rattle.row_space.specs.Question.{question_outcome}
use Rattle.column_space.specs.Slots.{SlotSolution, solve_slots}
use Rattle.column_space.specs.declared.SlotVerdict.{SlotVerdict}
use Rattle.certificate.specs.Reading.{set_of_certificate}
use Rattle.call_check.specs.Calls.{check_factors_of, check_certificate_of}
use Rattle.call_slots.specs.Solution.{Solution}

-- ---- the answer

abbrev pub solution_number : Solution → ℕ
solution_number (Solution.Refused number detail) = number
solution_number Solution.Solved = 0
solution_number Solution.Contradiction = 0

abbrev pub solution_detail : Solution → ℕ
solution_detail (Solution.Refused number detail) = detail
solution_detail Solution.Solved = 0
solution_detail Solution.Contradiction = 0

abbrev pub solution_of : SlotVerdict → Solution
solution_of SlotVerdict.Solved = Solution.Solved
solution_of SlotVerdict.Contradiction = Solution.Contradiction

abbrev pub given_solution : Result SlotVerdict Refusal → Solution
given_solution (Ok v) = solution_of v
given_solution (Err r) = Solution.Refused (number r.fault) r.detail

-- ---- slot values

unfoldable pub slot_lengths : (n m k : ℕ) → List ℕ → (a b : ℕ) → Bool
slot_lengths n m k h a b = eqb k m && (eqb (length h) n && (eqb a m && eqb b n))

unfoldable pub slots_after : Outcome → (p n m k : ℕ) → List ℕ → (a b : ℕ) → Outcome
slots_after check p n m k h a b = unless (slot_lengths n m k h a b) wrong_length 0 ▷ check ▷ question_outcome p h

pub record SlotsGiven : Type 0 where
  pub outcome : Outcome
  pub answer : Solution
  pub s : List ℕ
  pub w : List ℕ

abbrev pub slots_given : Outcome → SlotSolution → SlotsGiven
slots_given Outcome.Passed a = record { outcome = Outcome.Passed; answer = solution_of a.verdict; s = a.s; w = a.w }
slots_given (Outcome.Refused number detail) a = record { outcome = Outcome.Refused number detail; answer = Solution.Refused number detail; s = []; w = [] }

unfoldable pub slots_factors_of : (p n m k : ℕ) → Compressed → Set → (h : List ℕ) → (a b w : ℕ) → SlotsGiven
slots_factors_of p n m k A s h a b w = slots_given (slots_after (check_factors_of p n m A s w) p n m k h a b) (solve_slots p n m s (vector h))

unfoldable pub slots_certificate_of : (p n m k : ℕ) → Compressed → (cert h : List ℕ) → (a b w : ℕ) → SlotsGiven
slots_certificate_of p n m k A cert h a b w =
    slots_given (slots_after (check_certificate_of p n m A cert w) p n m k h a b) (solve_slots p n m (set_of_certificate n m cert) (vector h))

pub record Solves (g : SlotsGiven) (r : Solution) (s₀ s w₀ w v₀ v : List ℕ) : Type 0 where
  pub answer : r ≡ g.answer
  pub number : solution_number r ≡ number_of g.outcome
  pub detail : solution_detail r ≡ detail_of g.outcome
  pub s-is : s ≡ filled (length s₀) g.s
  pub w-is : w ≡ filled (length w₀) g.w
  pub cleared : v ≡ zeros (length v₀)

abbrev pub SolvesIn : (ℕ → ℕ → ℕ → SlotsGiven) → Solution → (s w work : LentList) → Type 0
SolvesIn g r s w work =
    Solves (g (length (before s)) (length (before w)) (length (before work))) r (before s) (after s) (before w) (after w) (before work) (after work)

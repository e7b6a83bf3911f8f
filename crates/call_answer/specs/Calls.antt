-- The calls that answer a question, in document 01's order of refusals: 9, 1, 2, 8, 10, 11 to 14, then 15.
--   answer_number, answer_detail    document 01's number of an answer, 0 where it is open or closed, and its detail
--   answer_of v                    the answer with the verdict v
--   given_answer r                 the answer that a call's result is
--   question_lengths n m y a b     a question y of m values, with a = n cells for x and b = m cells for z
--   question_after check ..        the outcome of a call with a question: 9 for its lists, the check of the set, then 15
--   Given                         what a call with a question gives: its outcome, the answer, and the lists that go to x and z
--   given o a                     a refusal with no list, or the answer a
--   answer_factors_of ..            the answer from stored factors
--   answer_certificate_of ..        the answer from a certificate
--   Answers g r x₀ x z₀ z w₀ w    the contract of such a call: its result, every cell of x and z, and the working row left all zero
--   AnswersIn g r x z work        the same of lent lists, where g makes what is given from their lengths
use Rattle.std.specs.Prelude.{ℕ, ◌≡◌, Bool, ◌&&◌, List, [], Result, Ok, Err, eqb, length}
use Rattle.lists.specs.Filled.{zeros, filled}
use Rattle.refusals.specs.Table.{wrong_length}
use Rattle.refusals.specs.declared.Refusal.{Refusal}
use Rattle.refusals.specs.Faults.{number}
use Rattle.refusals.specs.Refusals.{◌▷◌, unless, number_of, detail_of}
use Rattle.refusals.specs.Outcome.{Outcome}
use Rattle.algebra.specs.Matrix.{vector}
use Rattle.sparse.specs.Matrix.{Compressed}
use Rattle.sparse.specs.Set.{Set}
use Rattle.sparse.specs.Views.{LentList, before, after}
use Rattle.row_space.specs.Solve.{Solved, solve}
use Rattle.row_space.specs.Question.{question_outcome}
use Rattle.row_space.specs.declared.Verdict.{Verdict}
use Rattle.certificate.specs.Reading.{set_of_certificate}
use Rattle.call_check.specs.Calls.{check_factors_of, check_certificate_of}
use Rattle.call_answer.specs.Answer.{Answer}

-- ---- the answer

abbrev pub answer_number : Answer → ℕ
answer_number (Answer.Refused number detail) = number
answer_number Answer.Open = 0
answer_number Answer.Closed = 0

abbrev pub answer_detail : Answer → ℕ
answer_detail (Answer.Refused number detail) = detail
answer_detail Answer.Open = 0
answer_detail Answer.Closed = 0

abbrev pub answer_of : Verdict → Answer
answer_of Verdict.Open = Answer.Open
answer_of Verdict.Closed = Answer.Closed

abbrev pub given_answer : Result Verdict Refusal → Answer
given_answer (Ok v) = answer_of v
given_answer (Err r) = Answer.Refused (number r.fault) r.detail

-- ---- a question

unfoldable pub question_lengths : (n m : ℕ) → List ℕ → (a b : ℕ) → Bool
question_lengths n m y a b = eqb (length y) m && (eqb a n && eqb b m)

unfoldable pub question_after : Outcome → (p n m : ℕ) → List ℕ → (a b : ℕ) → Outcome
question_after check p n m y a b = unless (question_lengths n m y a b) wrong_length 0 ▷ check ▷ question_outcome p y

pub record Given : Type 0 where
  pub outcome : Outcome
  pub answer : Answer
  pub x : List ℕ
  pub z : List ℕ

abbrev pub given : Outcome → Solved → Given
given Outcome.Passed a = record { outcome = Outcome.Passed; answer = answer_of a.verdict; x = a.x; z = a.z }
given (Outcome.Refused number detail) a = record { outcome = Outcome.Refused number detail; answer = Answer.Refused number detail; x = []; z = [] }

unfoldable pub answer_factors_of : (p n m : ℕ) → Compressed → Set → (y : List ℕ) → (a b w : ℕ) → Given
answer_factors_of p n m A s y a b w = given (question_after (check_factors_of p n m A s w) p n m y a b) (solve p n m s (vector y))

unfoldable pub answer_certificate_of : (p n m : ℕ) → Compressed → (cert y : List ℕ) → (a b w : ℕ) → Given
answer_certificate_of p n m A cert y a b w =
    given (question_after (check_certificate_of p n m A cert w) p n m y a b) (solve p n m (set_of_certificate n m cert) (vector y))

pub record Answers (g : Given) (r : Answer) (x₀ x z₀ z w₀ w : List ℕ) : Type 0 where
  pub answer : r ≡ g.answer
  pub number : answer_number r ≡ number_of g.outcome
  pub detail : answer_detail r ≡ detail_of g.outcome
  pub x-is : x ≡ filled (length x₀) g.x
  pub z-is : z ≡ filled (length z₀) g.z
  pub cleared : w ≡ zeros (length w₀)

abbrev pub AnswersIn : (ℕ → ℕ → ℕ → Given) → Answer → (x z work : LentList) → Type 0
AnswersIn g r x z work =
    Answers (g (length (before x)) (length (before z)) (length (before work))) r (before x) (after x) (before z) (after z) (before work) (after work)

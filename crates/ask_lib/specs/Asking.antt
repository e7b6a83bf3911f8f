-- What the question program prints for a text and a question.
--   answer_for x f y     the answer to a question, from the set that factoring gives
--   is_open_answer a      the answer is open
--   given_line g         the line of what a call with a question gives: of its refusal, or the verdict with its values
--   after_stages x line  what is printed for a reading: the line of the first refusal, by reading or by factoring, or the line made from its factoring
--   ask_read_of x y       the answer's line for a reading: the line of the first refusal, or the verdict with its values
--   ask_of text y        the answer's line for a text
--   AskLists y ..       at most 2,049 values, a buffer that holds any line, and a working row
--   Asks text y ..      the contract: the length, every byte of the buffer, and the working row left all zero
use Rattle.std.specs.Prelude.{ℕ, ◌≤◌, ◌≡◌, Bool, true, false, List, length}
use Rattle.lists.specs.Filled.{zeros}
use Rattle.refusals.specs.Table.{storage_too_short, question_too_large}
use Rattle.byte_buffer.specs.Fills.{Fills}
use Rattle.text_plan.specs.Call.{ReadAnswer}
use Rattle.limits.specs.Limits.{work_length, starts_length, print_room}
use Rattle.factor_all.specs.Factorization.{Factorization}
use Rattle.call_answer.specs.Calls.{Given, answer_factors_of}
use Rattle.call_answer.specs.Answer.{Answer}
use Rattle.print_text.specs.Answer.{answer_text}
use Rattle.print_text.specs.Printed.{counted_from_one, printed}
use Rattle.stages.specs.Stages.{reading, factored_of, set_factored}
use Rattle.text_plan.specs.Held.{plan_of}

abbrev pub answer_for : ReadAnswer → Factorization → List ℕ → Given
answer_for x f y = let r = x.result in answer_factors_of r.p r.n r.m (plan_of x) (set_factored f) y r.n r.m work_length

abbrev pub is_open_answer : Answer → Bool
is_open_answer (Answer.Refused number detail) = false
is_open_answer Answer.Open = true
is_open_answer Answer.Closed = false

unfoldable pub given_line : Given → List ℕ
given_line g = printed (counted_from_one question_too_large g.outcome) (answer_text (is_open_answer g.answer) g.x g.z)

unfoldable pub after_stages : ReadAnswer → (Factorization → List ℕ) → List ℕ
after_stages x line =
    let f = factored_of x in
    printed x.result.outcome
    (printed (counted_from_one storage_too_short f.outcome)
    (line f))

unfoldable pub ask_read_of : ReadAnswer → List ℕ → List ℕ
ask_read_of x y = after_stages x (λ f. given_line (answer_for x f y))

unfoldable pub ask_of : List ℕ → List ℕ → List ℕ
ask_of text y = ask_read_of (reading text) y

pub record AskLists (y out w : List ℕ) : Type 0 where
  pub few : length y ≤ starts_length
  pub room : print_room ≤ length out
  pub work-length : length w ≡ work_length

pub record Asks (text y : List ℕ) (size : ℕ) (b₀ b w₀ w : List ℕ) : Type 0 where
  pub answer : Fills b₀ b size (ask_of text y)
  pub cleared : w ≡ zeros (length w₀)

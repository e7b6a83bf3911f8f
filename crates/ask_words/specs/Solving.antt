-- What the question program prints for a text and slot values (document 02, slip 6).
--   slots_for x f h         the answer to slot values, from the set that factoring gives
--   is_solved r             the answer is a setting of the words
--   solution_line g         the line of what a call with slot values gives: of its refusal, `words` with the setting of the words, or `contradiction` with the
--                          combination of the slots
--   words_read_of x h        the line for a reading: that of the first refusal, or of the answer
--   words_of text h         the line for a text
--   TellsWords text h ..   the contract: the length, every byte of the buffer, and the working row left all zero
use Rattle.std.specs.Prelude.{ℕ, ◌≡◌, Bool, true, false, List, length}
use Rattle.lists.specs.Filled.{zeros}
use Rattle.refusals.specs.Table.{question_too_large}
use Rattle.byte_buffer.specs.Fills.{Fills}
use Rattle.text_plan.specs.Call.{ReadAnswer}
use Rattle.text_plan.specs.Held.{plan_of}
use Rattle.limits.specs.Limits.{work_length}
use Rattle.factor_all.specs.Factorization.{Factorization}
use Rattle.call_slots.specs.Calls.{SlotsGiven, slots_factors_of}
use Rattle.call_slots.specs.Solution.{Solution}
use Rattle.print_text.specs.Answer.{slots_text}
use Rattle.print_text.specs.Printed.{counted_from_one, printed}
use Rattle.stages.specs.Stages.{reading, set_factored}
use Rattle.ask_lib.specs.Asking.{after_stages}

-- each word has an owner
abbrev pub slots_for : ReadAnswer → Factorization → List ℕ → SlotsGiven
slots_for x f h = let r = x.result in slots_factors_of r.p r.n r.m r.m (plan_of x) (set_factored f) h r.m r.n work_length

abbrev pub is_solved : Solution → Bool
is_solved (Solution.Refused number detail) = false
is_solved Solution.Solved = true
is_solved Solution.Contradiction = false

unfoldable pub solution_line : SlotsGiven → List ℕ
solution_line g = printed (counted_from_one question_too_large g.outcome) (slots_text (is_solved g.answer) g.s g.w)

unfoldable pub words_read_of : ReadAnswer → List ℕ → List ℕ
words_read_of x h = after_stages x (λ f. solution_line (slots_for x f h))

unfoldable pub words_of : List ℕ → List ℕ → List ℕ
words_of text h = words_read_of (reading text) h

pub record TellsWords (text h : List ℕ) (size : ℕ) (b₀ b w₀ w : List ℕ) : Type 0 where
  pub answer : Fills b₀ b size (words_of text h)
  pub cleared : w ≡ zeros (length w₀)

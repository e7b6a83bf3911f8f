-- What an answer's line says of the plan that was read.
--   AskRight x y out       out is the line of an answer to y, with its x or z, that is right (`AnswersRight`) for the plan and its factors by the pivot rules
--   FirstTooLarge p y i    i is the index of the first value of y that is p or more
use Rattle.std.specs.Prelude.{◌≡◌, List, ℕ, ◌≤◌, ◌<◌, length, get_or}
use Rattle.text_plan.specs.Call.{ReadAnswer}
use Rattle.text_plan.specs.Held.{plan_of}
use Rattle.call_answer.specs.Meaning.{AnswersRight}
use Rattle.call_answer.specs.Answer.{Answer}
use Rattle.print_text.specs.Answer.{answer_text}
use Rattle.stages.specs.Meaning.{factors_of}
use Rattle.ask_lib.specs.Asking.{is_open_answer}

pub record AskRight (x : ReadAnswer) (y out : List ℕ) : Type 0 where
  pub answer : Answer
  pub for-open : List ℕ
  pub for-closed : List ℕ
  pub printed-is : out ≡ answer_text (is_open_answer answer) for-open for-closed
  pub right : AnswersRight x.result.p x.result.n x.result.m (plan_of x) (factors_of x) y answer for-open for-closed

pub record FirstTooLarge (p : ℕ) (y : List ℕ) (i : ℕ) : Type 0 where
  pub inside : i < length y
  pub before : (k : ℕ) → k < i → get_or y k 0 < p
  pub large : p ≤ get_or y i 0

-- What an answer's line says of the plan that was read.
--   WordsRight x h out    out is the line of an answer to the slot values h, with the setting s of the words or the combination w of the slots, that is right
--                         (`SolvesRight`) for the plan and its factors by the pivot rules
use Rattle.std.specs.Prelude.{◌≡◌, List, ℕ}
use Rattle.text_plan.specs.Call.{ReadAnswer}
use Rattle.text_plan.specs.Held.{plan_of}
use Rattle.call_slots.specs.Meaning.{SolvesRight}
use Rattle.call_slots.specs.Solution.{Solution}
use Rattle.print_text.specs.Answer.{slots_text}
use Rattle.stages.specs.Meaning.{factors_of}
use Rattle.ask_words.specs.Solving.{is_solved}

pub record WordsRight (x : ReadAnswer) (h out : List ℕ) : Type 0 where
  pub answer : Solution
  pub s : List ℕ
  pub w : List ℕ
  pub printed-is : out ≡ slots_text (is_solved answer) s w
  pub right : SolvesRight x.result.p x.result.n x.result.m (plan_of x) (factors_of x) h answer s w

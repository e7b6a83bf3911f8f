-- What the call that reads a text returns and leaves: the plan, and the owners of its words.
--   owners_length               so many bytes are lent for the owners: one for each word that a plan may have
--   TextAnswer                 what is returned and left of the plan, and the owners as left
--   refuses_text c d ..         the answer that is a refusal: its number and detail, and all lists cleared
--   foot_of text m              the owners that follow the plan in its text
--   after_plan o f              what follows the plan, f, where the plan's outcome o is passed; else the plan's refusal
--   answer_with .. x f          the answer where the plan is read as x and what follows it as f: the first refusal counts
--   text_call_of text a b c k    the answer for starts, columns, values and owners of the lengths a, b, c and k: 9 where one is wrong
--   GivesText x r ..           the result and the lists are what the answer x says
use Rattle.std.specs.Prelude.{ℕ, ◌≡◌, List, cond, eqb}
use Rattle.lists.specs.Filled.{zeros, filled}
use Rattle.limits.specs.Limits.{largest_size}
use Rattle.refusals.specs.Table.{wrong_length}
use Rattle.refusals.specs.Outcome.{Outcome}
use Rattle.refusals.specs.Outcome.{Passed, Refused}
use Rattle.text_fields.specs.Pieces.{pieces}
use Rattle.text_plan.specs.Call.{ReadAnswer, refuses, call_of, Gives}
use Rattle.text_plan.specs.Call.{Reading}
use Rattle.text_owners.specs.Ending.{plan_part, foot_part, foot_line}
use Rattle.text_owners.specs.Owners.{OwnersRead, not_read, owned, owners_in}

abbrev pub owners_length : ℕ
owners_length = largest_size

pub record TextAnswer : Type 0 where
  pub plan : ReadAnswer
  pub owners : List ℕ

abbrev pub refuses_text : (number detail a b c k : ℕ) → TextAnswer
refuses_text number detail a b c k = record { plan = refuses number detail a b c; owners = zeros k }

unfoldable pub foot_of : List ℕ → ℕ → OwnersRead
foot_of text m = owners_in m (foot_line text) (pieces 10 (foot_part text))

abbrev pub after_plan : Outcome → OwnersRead → OwnersRead
after_plan Passed foot = foot
after_plan (Refused number detail) foot = not_read number detail

abbrev pub answer_with : (a b c k : ℕ) → ReadAnswer → OwnersRead → TextAnswer
answer_with a b c k x (not_read number detail) = refuses_text number detail a b c k
answer_with a b c k x (owned vs) = record { plan = x; owners = filled k vs }

unfoldable pub text_call_of : List ℕ → (a b c k : ℕ) → TextAnswer
text_call_of text a b c k =
    let x = call_of (plan_part text) a b c in
    cond (eqb k owners_length) (answer_with a b c k x (after_plan x.result.outcome (foot_of text x.result.m))) (refuses_text wrong_length 0 a b c k)

pub record GivesText (x : TextAnswer) (r : Reading) (starts columns values owners : List ℕ) : Type 0 where
  pub plan : Gives x.plan r starts columns values
  pub owners-are : owners ≡ x.owners

-- A plan text cut at a place, and what reading it so comes to.
--   QuickEnd text r          a place at which a text may be cut: within the text, and at its end where the text is above the limit
--   CutReady text end k      what reading the text cut there starts from: such a place, a number for the line there, and 2,048 bytes for the owners
--   ReadsCut text end x ..   what it returns and leaves is the call's answer x where the text is cut at the plan's end, and where it passes
--   counts exact o           whether the outcome o counts, where `exact` says that the text was cut at the plan's end
use Rattle.std.specs.Prelude.{ℕ, ◌+◌, ◌≤◌, ◌<◌, ◌≡◌, Bool, true, false, List, length}
use Rattle.limits.specs.Limits.{largest_text}
use Rattle.refusals.specs.Outcome.{Outcome}
use Rattle.refusals.specs.Outcome.{Passed, Refused}
use Rattle.text_lines.specs.declared.Place.{Place}
use Rattle.text_plan.specs.Call.{Reading}
use Rattle.text_owners.specs.Ending.{PlanEnds}
use Rattle.text_owners.specs.Call.{owners_length, TextAnswer, GivesText}

pub record QuickEnd (text : List ℕ) (r : ℕ) : Type 0 where
  pub inside : r ≤ length text
  pub short : r < length text → length text ≤ largest_text

pub record CutReady (text : List ℕ) (end : Place) (k : ℕ) : Type 0 where
  pub place : QuickEnd text end.at
  pub numbered : end.line ≤ end.at + 1
  pub long : k ≡ owners_length

pub record ReadsCut (text : List ℕ) (end : Place) (x : TextAnswer) (r : Reading) (starts columns values owners : List ℕ) : Type 0 where
  pub exact : PlanEnds text end → GivesText x r starts columns values owners
  pub passed : r.outcome ≡ Passed → GivesText x r starts columns values owners

abbrev pub counts : Bool → Outcome → Bool
counts true o = true
counts false Passed = true
counts false (Refused number detail) = false

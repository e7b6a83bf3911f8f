-- What the lines say of the plan that was read.
--   block_lines m d basis    a line for each of the first d blocks of m cells of a list
--   SettingsTold x out      out is the number m - r of free columns, and a line for each block of a list that is right (`SettingsRight`) for the plan and its factors
--                           by the pivot rules: the settings of the free columns, rising
use Rattle.std.specs.Prelude.{ℕ, zero, suc, ◌-◌, ◌≡◌, List, [], ◌++◌, take, drop}
use Rattle.text_plan.specs.Call.{ReadAnswer}
use Rattle.text_plan.specs.Held.{plan_of}
use Rattle.call_kernel.specs.Meaning.{SettingsRight}
use Rattle.print_text.specs.Settings.{free_line, setting_line}
use Rattle.stages.specs.Meaning.{factors_of}

unfoldable pub block_lines : (m d : ℕ) → List ℕ → List ℕ
block_lines m zero basis = []
block_lines m (suc d) basis = setting_line (take m basis) ++ block_lines m d (drop m basis)

pub record SettingsTold (x : ReadAnswer) (out : List ℕ) : Type 0 where
  pub basis : List ℕ
  pub printed-is : out ≡ (let d = x.result.m - (factors_of x).r in free_line d ++ block_lines x.result.m d basis)
  pub right : SettingsRight x.result.p x.result.n x.result.m (plan_of x) (factors_of x) basis

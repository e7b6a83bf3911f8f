-- What the program `ask` prints of a text with the verb `settings` (document 02, slip 7).
--   setting_line_at p m s c    the line of column c: nothing where it is a pivot column, else its setting
--   setting_lines p m s c     the lines of the columns below c, rising
--   settings_text p m s       how many columns are free, then the lines of all m columns
--   settings_read_of x         what is printed for a reading: the line of the first refusal, or the lines of the settings
--   settings_of text          what is printed for a text
--   first_line_of text         its first line: that of the refusal, or how many columns are free
use Rattle.std.specs.Prelude.{ℕ, zero, suc, ◌-◌, cond, List, [], ◌++◌, take}
use Rattle.lists.specs.Tests.{among}
use Rattle.sparse.specs.Set.{Set}
use Rattle.row_space.specs.Kernel.{setting}
use Rattle.text_plan.specs.Call.{ReadAnswer}
use Rattle.print_text.specs.Settings.{free_line, setting_line}
use Rattle.stages.specs.Stages.{reading, set_factored}
use Rattle.ask_lib.specs.Asking.{after_stages}

unfoldable pub setting_line_at : (p m : ℕ) → Set → ℕ → List ℕ
setting_line_at p m s c = cond (among c (take s.r s.C)) [] (setting_line (setting p m s c))

unfoldable pub setting_lines : (p m : ℕ) → Set → ℕ → List ℕ
setting_lines p m s zero = []
setting_lines p m s (suc c) = setting_lines p m s c ++ setting_line_at p m s c

unfoldable pub settings_text : (p m : ℕ) → Set → List ℕ
settings_text p m s = free_line (m - s.r) ++ setting_lines p m s m

unfoldable pub settings_read_of : ReadAnswer → List ℕ
settings_read_of x = after_stages x (λ f. settings_text x.result.p x.result.m (set_factored f))

unfoldable pub settings_of : List ℕ → List ℕ
settings_of text = settings_read_of (reading text)

unfoldable pub first_line_of : List ℕ → List ℕ
first_line_of text = let x = reading text in after_stages x (λ f. free_line (x.result.m - f.rank))

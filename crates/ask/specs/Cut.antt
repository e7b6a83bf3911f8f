-- An input that was cut off: its last line has no line feed.
--   is_cut l            values are cut off: something stands there, and no line feed ends it
--   last_line_number t   the number of the last line of such a text, counted from 1: one more than its line feeds
--   cut_line plan k     what is printed where values are cut off in line k: the refusal of the plan before them, or else that line is malformed
use Rattle.std.specs.Prelude.{ℕ, ◌+◌, ◌-◌, Bool, false, cond, not, List, eqb, length, get_or}
use Rattle.lists.specs.Tests.{count}
use Rattle.refusals.specs.Table.{malformed}
use Rattle.print_text.specs.Printed.{printed}
use Rattle.print_text.specs.Report.{refusal_text}
use Rattle.stages.specs.Stages.{reading}

unfoldable pub is_cut : List ℕ → Bool
is_cut l = cond (eqb (length l) 0) false (not (eqb (get_or l (length l - 1) 0) 10))

unfoldable pub last_line_number : List ℕ → ℕ
last_line_number text = count (length text) (λ j. eqb (get_or text j 0) 10) + 1

unfoldable pub cut_line : List ℕ → ℕ → List ℕ
cut_line plan k = printed (reading plan).result.outcome (refusal_text malformed k)

-- What the program `ask` prints of the settings that give every slot 0 (document 02, slip 7): how many columns are free, and a line a setting.
--   free_line k        `free 1`
--   setting_line zs    `setting 3 2 1 1 0`
use Rattle.std.specs.Prelude.{ℕ, List, [], ◌∷◌}
use Rattle.print_text.specs.Labels.{free_word, kernel_word}
use Rattle.print_text.specs.Answer.{values_line}

abbrev pub free_line : ℕ → List ℕ
free_line k = values_line free_word (k ∷ [])

abbrev pub setting_line : List ℕ → List ℕ
setting_line zs = values_line kernel_word zs

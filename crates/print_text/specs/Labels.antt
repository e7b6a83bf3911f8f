-- The fixed parts of the printed lines, as bytes.
--   modulus_label, slots_label, words_label, entries_label, rank_label, structural_label, lower_label, upper_label, open_label, owner_label, totals_label,
--   closed_label, refused_label, at_label
--                       what stands before each number, with its spaces
--   open_word, closed_word    the two verdicts on a question
--   setting_word, contradiction_word    the two answers to slot values
--   free_word, kernel_word    the number of free columns, and a setting of one of them
--   space, line_feed         what stands before each value, and at the end of each line
use Rattle.std.specs.Prelude.{ℕ, List, [], ◌∷◌}

-- `modulus `
abbrev pub modulus_label : List ℕ
modulus_label = 109 ∷ 111 ∷ 100 ∷ 117 ∷ 108 ∷ 117 ∷ 115 ∷ 32 ∷ []

-- ` slots `
abbrev pub slots_label : List ℕ
slots_label = 32 ∷ 115 ∷ 108 ∷ 111 ∷ 116 ∷ 115 ∷ 32 ∷ []

-- ` words `
abbrev pub words_label : List ℕ
words_label = 32 ∷ 119 ∷ 111 ∷ 114 ∷ 100 ∷ 115 ∷ 32 ∷ []

-- ` entries `
abbrev pub entries_label : List ℕ
entries_label = 32 ∷ 101 ∷ 110 ∷ 116 ∷ 114 ∷ 105 ∷ 101 ∷ 115 ∷ 32 ∷ []

-- `rank `
abbrev pub rank_label : List ℕ
rank_label = 114 ∷ 97 ∷ 110 ∷ 107 ∷ 32 ∷ []

-- ` structural `
abbrev pub structural_label : List ℕ
structural_label = 32 ∷ 115 ∷ 116 ∷ 114 ∷ 117 ∷ 99 ∷ 116 ∷ 117 ∷ 114 ∷ 97 ∷ 108 ∷ 32 ∷ []

-- ` L `
abbrev pub lower_label : List ℕ
lower_label = 32 ∷ 76 ∷ 32 ∷ []

-- ` U `
abbrev pub upper_label : List ℕ
upper_label = 32 ∷ 85 ∷ 32 ∷ []

-- `open `
abbrev pub open_label : List ℕ
open_label = 111 ∷ 112 ∷ 101 ∷ 110 ∷ 32 ∷ []

-- ` owner `
abbrev pub owner_label : List ℕ
owner_label = 32 ∷ 111 ∷ 119 ∷ 110 ∷ 101 ∷ 114 ∷ 32 ∷ []

-- `totals open `
abbrev pub totals_label : List ℕ
totals_label = 116 ∷ 111 ∷ 116 ∷ 97 ∷ 108 ∷ 115 ∷ 32 ∷ 111 ∷ 112 ∷ 101 ∷ 110 ∷ 32 ∷ []

-- ` closed `
abbrev pub closed_label : List ℕ
closed_label = 32 ∷ 99 ∷ 108 ∷ 111 ∷ 115 ∷ 101 ∷ 100 ∷ 32 ∷ []

-- `refused `
abbrev pub refused_label : List ℕ
refused_label = 114 ∷ 101 ∷ 102 ∷ 117 ∷ 115 ∷ 101 ∷ 100 ∷ 32 ∷ []

-- ` at `
abbrev pub at_label : List ℕ
at_label = 32 ∷ 97 ∷ 116 ∷ 32 ∷ []

-- `open`
abbrev pub open_word : List ℕ
open_word = 111 ∷ 112 ∷ 101 ∷ 110 ∷ []

-- `closed`
abbrev pub closed_word : List ℕ
closed_word = 99 ∷ 108 ∷ 111 ∷ 115 ∷ 101 ∷ 100 ∷ []

-- `words`
abbrev pub setting_word : List ℕ
setting_word = 119 ∷ 111 ∷ 114 ∷ 100 ∷ 115 ∷ []

-- `contradiction`
abbrev pub contradiction_word : List ℕ
contradiction_word = 99 ∷ 111 ∷ 110 ∷ 116 ∷ 114 ∷ 97 ∷ 100 ∷ 105 ∷ 99 ∷ 116 ∷ 105 ∷ 111 ∷ 110 ∷ []

-- `free`
abbrev pub free_word : List ℕ
free_word = 102 ∷ 114 ∷ 101 ∷ 101 ∷ []

-- `setting`
abbrev pub kernel_word : List ℕ
kernel_word = 115 ∷ 101 ∷ 116 ∷ 116 ∷ 105 ∷ 110 ∷ 103 ∷ []

-- ` `
abbrev pub space : List ℕ
space = 32 ∷ []

abbrev pub line_feed : List ℕ
line_feed = 10 ∷ []

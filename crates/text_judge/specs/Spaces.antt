-- Where the two spaces of a line stand.
--   fields_at l r   the fields of l where r says that its spaces stand
--   Inside l r     these places are in the line, one after the other
--   Cut l r        r says where the two spaces of the line l stand, and that cuts it into its fields
use Rattle.std.specs.Prelude.{ℕ, ◌+◌, ◌-◌, ◌<◌, ◌≡◌, List, length, take, drop, Option, Some, None}
use Rattle.text_fields.specs.Pieces.{pieces}
use Rattle.text_judge.specs.Line.{Fields, three, not_three, fields_of}
use Rattle.text_judge.specs.declared.header.Spaces.{Spaces}

abbrev pub fields_at : List ℕ → Option Spaces → Fields
fields_at l (Some at) = three (take at.first l) (take (at.second - (at.first + 1)) (drop (at.first + 1) l)) (drop (at.second + 1) l)
fields_at l None = not_three

abbrev pub Inside : List ℕ → Option Spaces → Type 0
Inside l (Some at) = (at.first < at.second) × (at.second < length l)
Inside l None = Unit {0}

pub record Cut (l : List ℕ) (r : Option Spaces) : Type 0 where
  pub fields : fields_of (pieces 32 l) ≡ fields_at l r
  pub inside : Inside l r

-- Lines of a text.
--   line_at text at     the line that starts at a place: the bytes up to the next line feed (byte 10), or up to the end
--   line_end text at    where that line ends: the place of its line feed, or the text's end
--   Ends               a line of so many bytes that a line feed ends, and a number after which there is a next one
use Rattle.std.specs.Prelude.{ℕ, ◌+◌, ◌<◌, ◌^◌, ◌≡◌, List, length, drop}
use Rattle.text_fields.specs.Pieces.{pieces, first_piece}

abbrev pub line_at : List ℕ → ℕ → List ℕ
line_at text at = first_piece (pieces 10 (drop at text))

abbrev pub line_end : List ℕ → ℕ → ℕ
line_end text at = at + length (line_at text at)

-- what going on to the next line starts from
pub record Ends (text : List ℕ) (at line size : ℕ) : Type 0 where
  pub size_is : size ≡ length (line_at text at)
  pub feed : at + size < length text
  pub numbered : line + 1 < 2 ^ 32

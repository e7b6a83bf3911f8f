-- The reading as it was while triples had to rise: by row, then by column. It is kept to say that what it accepted is read as it was.
--   last_row, last_column      where the latest triple seen stands, 0 and 0 before the first
--   rises seen i j           i and j stand after the latest triple seen
--   read_rising_of room text   a text read whose triples rise
use Rattle.std.specs.Prelude.{ℕ, List, [], ◌∷◌, Bool}
use Rattle.text_judge.specs.Judge.{precedes}
use Rattle.text_opening.specs.Reading.{Entry, ReadResult, read_by}

abbrev pub last_row : List Entry → ℕ
last_row [] = 0
last_row (t ∷ ts) = t.row

abbrev pub last_column : List Entry → ℕ
last_column [] = 0
last_column (t ∷ ts) = t.column

abbrev pub rises : List Entry → ℕ → ℕ → Bool
rises seen i j = precedes (last_row seen) (last_column seen) i j

abbrev pub read_rising_of : ℕ → List ℕ → ReadResult
read_rising_of = read_by rises

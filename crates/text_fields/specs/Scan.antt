-- The piece that starts at a place of a text, and where it ends.
--   piece_from s l j   the piece that starts at place j of the text l
--   size_from s l j    its length
--   OfEight s l j r   r of the eight bytes from place j on stand before the first separator: eight where it is none of them
use Rattle.std.specs.Prelude.{ℕ, ◌+◌, ◌≤◌, ◌<◌, ◌≡◌, List, length, drop}
use Rattle.text_fields.specs.Pieces.{pieces, first_piece}

abbrev pub piece_from : ℕ → List ℕ → ℕ → List ℕ
piece_from s l j = first_piece (pieces s (drop j l))

abbrev pub size_from : ℕ → List ℕ → ℕ → ℕ
size_from s l j = length (piece_from s l j)

pub record OfEight (s : ℕ) (l : List ℕ) (j r : ℕ) : Type 0 where
  pub most : r ≤ 8
  pub passed : size_from s l j ≡ r + size_from s l (j + r)
  pub found : r < 8 → size_from s l (j + r) ≡ 0

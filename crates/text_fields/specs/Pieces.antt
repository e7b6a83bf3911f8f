-- A text cut at a separator byte.
--   Pieces            the pieces: `more l t` is a piece l that a separator ends, then the rest t; `last l` follows the last separator
--   pieces s text     the pieces of a text cut at each byte s
--   prepend b t       the pieces t with the byte b before the first
--   first_piece t      the first of them
--   joined s t        the text of the pieces: their bytes, with the separator s between them
use Rattle.std.specs.Prelude.{ℕ, List, [], ◌∷◌, ◌++◌, cond, eqb}

pub data Pieces : Type 0 where
  last : List ℕ → Pieces
  more : List ℕ → Pieces → Pieces

-- a byte before the first piece
abbrev pub prepend : ℕ → Pieces → Pieces
prepend b (last l) = last (b ∷ l)
prepend b (more l t) = more (b ∷ l) t

unfoldable pub pieces : ℕ → List ℕ → Pieces
pieces s [] = last []
pieces s (b ∷ bs) = let t = pieces s bs in cond (eqb b s) (more [] t) (prepend b t)

abbrev pub first_piece : Pieces → List ℕ
first_piece (last l) = l
first_piece (more l t) = l

unfoldable pub joined : ℕ → Pieces → List ℕ
joined s (last l) = l
joined s (more l t) = l ++ s ∷ joined s t

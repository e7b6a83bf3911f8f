-- The plans and sets of the proved cases.
--   none        no rows and one column, or no columns at all
--   blank       two rows, no entries
--   ones        two rows of three ones
--   thrice      three rows of one 1
--   falling     a set of thrice whose dependent rows fall: rows 0, 2, 1
--   single      one row, 0 2 1
--   backward    a set of single whose free columns fall: columns 1, 2, 0
--   D           document 01's plan D, modulo 7
--   set_d l u    D's set, with l for L[3][3] and u for U[0][0]: 3 and 1 in the engine's own
--   earlier_d    D's set as document 01 has it, before slip 9
use Rattle.std.specs.Prelude.{ℕ, [], ◌∷◌}
use Rattle.sparse.specs.Matrix.{Compressed, compressed}
use Rattle.sparse.specs.Set.{Set, set_of}

abbrev pub none : Compressed
none = compressed (0 ∷ []) [] []

abbrev pub blank : Compressed
blank = compressed (0 ∷ 0 ∷ 0 ∷ []) [] []

abbrev pub ones : Compressed
ones = compressed (0 ∷ 3 ∷ 6 ∷ []) (0 ∷ 1 ∷ 2 ∷ 0 ∷ 1 ∷ 2 ∷ []) (1 ∷ 1 ∷ 1 ∷ 1 ∷ 1 ∷ 1 ∷ [])

abbrev pub thrice : Compressed
thrice = compressed (0 ∷ 1 ∷ 2 ∷ 3 ∷ []) (0 ∷ 0 ∷ 0 ∷ []) (1 ∷ 1 ∷ 1 ∷ [])

abbrev pub falling : Set
falling = set_of 1 (0 ∷ 2 ∷ 1 ∷ []) (0 ∷ []) thrice (compressed (0 ∷ 1 ∷ []) (0 ∷ []) (1 ∷ []))

abbrev pub single : Compressed
single = compressed (0 ∷ 2 ∷ []) (1 ∷ 2 ∷ []) (2 ∷ 1 ∷ [])

abbrev pub backward : Set
backward = set_of 1 (0 ∷ []) (1 ∷ 2 ∷ 0 ∷ []) (compressed (0 ∷ 1 ∷ []) (0 ∷ []) (2 ∷ [])) (compressed (0 ∷ 2 ∷ []) (1 ∷ 2 ∷ []) (1 ∷ 4 ∷ []))

abbrev pub D : Compressed
D =
    compressed
    (0 ∷ 2 ∷ 4 ∷ 8 ∷ 10 ∷ 11 ∷ [])
    (0 ∷ 2 ∷ 1 ∷ 3 ∷ 0 ∷ 1 ∷ 2 ∷ 3 ∷ 1 ∷ 2 ∷ 4 ∷ [])
    (2 ∷ 1 ∷ 3 ∷ 1 ∷ 4 ∷ 3 ∷ 2 ∷ 1 ∷ 1 ∷ 5 ∷ 3 ∷ [])

abbrev pub set_d : ℕ → ℕ → Set
set_d l u =
    set_of 4
    (0 ∷ 3 ∷ 1 ∷ 4 ∷ 2 ∷ [])
    (0 ∷ 2 ∷ 1 ∷ 4 ∷ 3 ∷ [])
    (compressed (0 ∷ 1 ∷ 2 ∷ 3 ∷ 4 ∷ 6 ∷ []) (0 ∷ 1 ∷ 2 ∷ 3 ∷ 0 ∷ 2 ∷ []) (2 ∷ 5 ∷ 3 ∷ l ∷ 4 ∷ 3 ∷ []))
    (compressed (0 ∷ 2 ∷ 4 ∷ 6 ∷ 7 ∷ []) (0 ∷ 2 ∷ 1 ∷ 2 ∷ 1 ∷ 3 ∷ 4 ∷ []) (u ∷ 4 ∷ 3 ∷ 1 ∷ 1 ∷ 5 ∷ 1 ∷ []))

abbrev pub earlier_d : Set
earlier_d =
    set_of 4
    (0 ∷ 1 ∷ 4 ∷ 3 ∷ 2 ∷ [])
    (0 ∷ 1 ∷ 4 ∷ 2 ∷ 3 ∷ [])
    (compressed (0 ∷ 1 ∷ 2 ∷ 3 ∷ 5 ∷ 7 ∷ []) (0 ∷ 1 ∷ 2 ∷ 1 ∷ 3 ∷ 0 ∷ 1 ∷ []) (2 ∷ 3 ∷ 3 ∷ 1 ∷ 5 ∷ 4 ∷ 3 ∷ []))
    (compressed (0 ∷ 2 ∷ 4 ∷ 5 ∷ 7 ∷ []) (0 ∷ 2 ∷ 1 ∷ 3 ∷ 4 ∷ 2 ∷ 3 ∷ []) (1 ∷ 4 ∷ 1 ∷ 5 ∷ 1 ∷ 1 ∷ 6 ∷ []))

-- Dense rows, and the stored lists that hold them. Zeros are never stored.
--   columns_from j row     the columns, counted from j, at which a dense row is not 0
--   nonzeros row          the values that are not 0, in order
--   starts_after at rows   the row starts after one that is `at`
--   all_columns, all_values the columns and the values of all rows, one row after another
--   compress rows         the stored form of a list of dense rows
--   scaled p c w          the residues that the cells of a working row stand for, each times c
use Rattle.std.specs.Prelude.{ℕ, zero, suc, ◌+◌, ◌*◌, ◌%◌, List, [], ◌∷◌, ◌++◌, map, length}
use Rattle.sparse.specs.Matrix.{Compressed, compressed}

unfoldable pub columns_from : ℕ → List ℕ → List ℕ
columns_from j [] = []
columns_from j (zero ∷ row) = columns_from (suc j) row
columns_from j (suc v ∷ row) = j ∷ columns_from (suc j) row

unfoldable pub nonzeros : List ℕ → List ℕ
nonzeros [] = []
nonzeros (zero ∷ row) = nonzeros row
nonzeros (suc v ∷ row) = suc v ∷ nonzeros row

unfoldable pub starts_after : ℕ → List (List ℕ) → List ℕ
starts_after at [] = []
starts_after at (row ∷ rows) = (at + length (nonzeros row)) ∷ starts_after (at + length (nonzeros row)) rows

unfoldable pub all_columns : List (List ℕ) → List ℕ
all_columns [] = []
all_columns (row ∷ rows) = columns_from 0 row ++ all_columns rows

unfoldable pub all_values : List (List ℕ) → List ℕ
all_values [] = []
all_values (row ∷ rows) = nonzeros row ++ all_values rows

unfoldable pub compress : List (List ℕ) → Compressed
compress rows = compressed (0 ∷ starts_after 0 rows) (all_columns rows) (all_values rows)

unfoldable pub scaled : ℕ → ℕ → List ℕ → List ℕ
scaled p c w = map (λ (x : ℕ). c * (x % p) % p) w

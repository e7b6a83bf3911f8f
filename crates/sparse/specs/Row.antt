-- A sparse row: a list of columns and a list of values.
--   weigh cols vals f      the sum of the values, each times f at its column
--   entry cols vals j      the row's entry at column j: the value stored there, 0 where none is
--   Below n xs             every number of xs is below n
--   Row p width cols vals  a row of a well-formed matrix: columns rise below width, values are 1 to p - 1, as many as columns
use Rattle.std.specs.Prelude.{ℕ, ◌+◌, ◌*◌, ◌<◌, ◌≡◌, true, List, [], ◌∷◌, length, get_or}
use Rattle.algebra.specs.Sum.{δ}
use Rattle.sparse.specs.Form.{rises_from, values_ok}

unfoldable pub weigh : List ℕ → List ℕ → (ℕ → ℕ) → ℕ
weigh [] vs f = 0
weigh (c ∷ cs) [] f = 0
weigh (c ∷ cs) (v ∷ vs) f = v * f c + weigh cs vs f

abbrev pub entry : List ℕ → List ℕ → ℕ → ℕ
entry cols vals j = weigh cols vals (λ c. δ c j)

abbrev pub Below : ℕ → List ℕ → Type 0
Below n xs = (i : ℕ) → i < length xs → get_or xs i 0 < n

pub record Row (p width : ℕ) (cols vals : List ℕ) : Type 0 where
  pub paired : length cols ≡ length vals
  pub rising : rises_from width 0 cols ≡ true
  pub nonzero : values_ok p vals ≡ true

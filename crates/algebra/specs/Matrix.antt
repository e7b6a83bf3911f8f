-- Vectors, matrices and permutations. Sizes stand beside them: a vector of m numbers is read below m only.
--   Vector               a number for each index
--   Matrix               a number for each row and column (with its modulus, document 01's plan: a row is a slot, a column a word)
--   vector xs            the list xs as a vector, 0 past its end
--   Distinct s n w       w 0, .., w (s - 1) are below n, and no two are equal
--   Permutation n w      w 0, .., w (n - 1) are the numbers below n in some order (document 01's row order and column order)
use Rattle.std.specs.Prelude.{◌≡◌, List, ℕ, ◌<◌, get_or}

abbrev pub Vector : Type 0
Vector = ℕ → ℕ

abbrev pub Matrix : Type 0
Matrix = ℕ → ℕ → ℕ

abbrev pub vector : List ℕ → Vector
vector xs = λ j. get_or xs j 0

pub record Distinct (s n : ℕ) (w : ℕ → ℕ) : Type 0 where
  pub below : (a : ℕ) → a < s → w a < n
  pub apart : (a b : ℕ) → a < s → b < s → w a ≡ w b → a ≡ b

abbrev pub Permutation : ℕ → (ℕ → ℕ) → Type 0
Permutation n w = Distinct n n w

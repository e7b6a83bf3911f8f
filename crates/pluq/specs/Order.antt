-- Orders of rows and columns, as lists.
--   below n xs        every number of xs is below n
--   distinct xs       no two numbers of xs are equal
--   permutation xs    xs is a permutation of 0 .. n - 1, n its length
use Rattle.std.specs.Prelude.{ℕ, Bool, true, not, ◌&&◌, List, [], ◌∷◌, ltb, length}
use Rattle.lists.specs.Tests.{among}

unfoldable pub below : ℕ → List ℕ → Bool
below n [] = true
below n (x ∷ xs) = ltb x n && below n xs

unfoldable pub distinct : List ℕ → Bool
distinct [] = true
distinct (x ∷ xs) = not (among x xs) && distinct xs

unfoldable pub permutation : List ℕ → Bool
permutation xs = below (length xs) xs && distinct xs

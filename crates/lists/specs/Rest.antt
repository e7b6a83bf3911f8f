-- What a list leaves over of the numbers below a bound.
--   rest xs n    the numbers below n that are not in xs, rising
use Rattle.std.specs.Prelude.{ℕ, zero, suc, cond, List, [], ◌∷◌, ◌++◌}
use Rattle.lists.specs.Tests.{among}

unfoldable pub rest : List ℕ → ℕ → List ℕ
rest xs zero = []
rest xs (suc k) = rest xs k ++ cond (among k xs) [] (k ∷ [])

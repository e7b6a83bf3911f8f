-- The columns of a row of U that stand in the way of its pivot column being open.
--   closed_at d o c         1 where c is another column than d, and the list o has 0 for it; else 0
--   closed_others d o cs    how many of the columns cs are such columns
use Rattle.std.specs.Prelude.{ℕ, ◌+◌, cond, List, [], ◌∷◌, eqb, get_or}

unfoldable pub closed_at : ℕ → List ℕ → ℕ → ℕ
closed_at d o c = cond (eqb c d) 0 (cond (eqb (get_or o c 0) 0) 1 0)

unfoldable pub closed_others : ℕ → List ℕ → List ℕ → ℕ
closed_others d o [] = 0
closed_others d o (c ∷ cs) = closed_at d o c + closed_others d o cs

-- Numbers that stand behind their like in a list.
--   same_at R C a b     the numbers a and b have one row and one column; R and C give them
--   again same d xs    the least number below d that stands in xs behind its like, d where there is none
use Rattle.std.specs.Prelude.{ℕ, List, [], ◌∷◌, Bool, cond, ◌&&◌, eqb, ltb}

abbrev pub same_at : (ℕ → ℕ) → (ℕ → ℕ) → ℕ → ℕ → Bool
same_at R C a b = eqb (R a) (R b) && eqb (C a) (C b)

unfoldable pub again : (ℕ → ℕ → Bool) → ℕ → List ℕ → ℕ
again same d [] = d
again same d (a ∷ []) = d
again same d (a ∷ b ∷ r) = again same (cond (same a b && ltb b d) b d) (b ∷ r)
